-- What is told at the calls of a seat.
use Rattle.std.proofs.Common.{arith, ◌≡◌, ℕ, zero, suc, ◌+◌, ◌<◌, Bool, true, false, ◌==◌, ◌⊎◌, inl, inr, List, [], ◌∷◌, ◌++◌, All, slice_get, take, Some, refl, sym, subst, ap, ap₂, ◌∙◌}
use Rattle.std.specs.Bool.{if◌then◌else◌}
use Rattle.std.proofs.lemmas.Bool.{cases_Bool, eq-eqb}
use Rattle.std.proofs.lemmas.List.Elements.{All-append, All-nil}
use Rattle.std.proofs.lemmas.Option.{none-some, same_Some}
use Rattle.list_laws.proofs.Lists.{taken_more}
use Rattle.orc_ids.specs.declared.lookup.Outcome.{Outcome}
use Rattle.session_model.specs.Calls.{numbered_calls}
use Rattle.session_model.specs.History.{IsLegal}
use Rattle.session_model.specs.Meaning.{Meaning}
use Rattle.session_model.specs.State.{state}
use Rattle.session_model.specs.declared.entry.Entry.{Entry}
use Rattle.notifiers.specs.declared.notice.Notice.{Notice}
use Rattle.closure_laws.specs.Quiet.{SettlesNow}
use Rattle.closure_laws.proofs.Declared.{quiet_settles_none, row_below}
use Rattle.session_laws.proofs.Declared.{front_legal, query_was_asked}
use Rattle.history_laws.specs.Laws.{may_settle}
use Rattle.history_laws.proofs.Unlodged.{unstirred}
use Rattle.history_laws.specs.Notes.{AreTold, ToldAt, Nobody, Call}
use Rattle.history_laws.specs.NoticeLaws.{EndedAreTold, IsAmong, TellsNote, ToldHaveEnded}
use Rattle.history_laws.specs.Notices.{NoteEnded}
use Rattle.history_laws.proofs.Prefixes.{settles_there}
use Rattle.history_laws.proofs.Telling.{IsOne, ended_told, one_after, one_before, told_ended}

module _ {N : Type 0} where
  all_told : (h : List (Entry Meaning)) (cs : List (ℕ × Entry Meaning)) (told : List (Notice N)) → ToldAt h cs told → All (λ f. NoteEnded h f.note f.outcome) told
  all_told h _ _ Nobody = All-nil (λ f. NoteEnded h f.note f.outcome)
  all_told h _ _ (Call n e cs now later are rest) = All-append (λ f. NoteEnded h f.note f.outcome) now later (told_ended h n now are) (all_told h cs later rest)

  -- who was told at one of the calls
  record ToldIn (h : List (Entry Meaning)) (n : ℕ) (told : List (Notice N)) : Type 0 where
    now : List (Notice N)
    are : AreTold (take n h) now
    among : (f : Notice N) → IsOne f now → IsOne f told

  told_in : (h : List (Entry Meaning)) (cs : List (ℕ × Entry Meaning)) (told : List (Notice N)) → ToldAt h cs told → (i n : ℕ) (e : Entry Meaning) → slice_get cs i ≡ Some (n, e) → ToldIn h n told
  told_in h _ _ Nobody i n e there = absurd (none-some (n, e) there)
  told_in h _ _ (Call n e cs now later are rest) zero m d there =
      let same : n ≡ m = ap (λ c. c.0) (same_Some (n, e) (m, d) there) in
      record { now = now; are = subst (λ k. AreTold (take k h) now) same are; among = λ f one. one_before f now later one }
  told_in h _ _ (Call n e cs now later are rest) (suc i) m d there =
      let t = told_in h cs later rest i m d there in
      record { now = t.now; are = t.are; among = λ f one. one_after f now later (t.among f one) }

pub told_have_ended : {N : Type 0} → ToldHaveEnded N
told_have_ended h seat told at = all_told h (numbered_calls seat 1 h) told at

-- one of a list is one behind another, if that is there
behind : {X : Type 0} (x : X) (b : Bool) (xs : List X) (y : X) → IsOne y xs → IsOne y (if b then x ∷ xs else xs)
behind x true xs y one = (suc one.0, one.1)
behind x false xs y one = one

-- an entry is one of its seat's calls
numbered_there : (es : List (Entry Meaning)) (m k : ℕ) (e : Entry Meaning) → slice_get es k ≡ Some e → (i : ℕ) × (slice_get (numbered_calls e.seat.0 m es) i ≡ Some (m + k, e))
numbered_there [] m k e there = absurd (none-some e there)
numbered_there (f ∷ fs) m zero e there = (0, subst (λ b. slice_get (if b then (m, f) ∷ numbered_calls e.seat.0 (m + 1) fs else numbered_calls e.seat.0 (m + 1) fs) 0 ≡ Some (m + 0, e)) (sym mine) (ap Some first))
  where
    same : f ≡ e
    same = same_Some f e there

    mine : (f.seat.0 == e.seat.0) ≡ true
    mine = eq-eqb f.seat.0 e.seat.0 (ap (λ (x : Entry Meaning). x.seat.0) same)

    Numbered : Type 0
    Numbered = ℕ × Entry Meaning

    first : ◌≡◌ {A = Numbered} (m, f) (m + 0, e)
    first = ap₂ {C = Numbered} (λ k x. (k, x)) number same
      where
        number : m ≡ m + 0
        number = omega arith
numbered_there (f ∷ fs) m (suc k) e there =
    let t = numbered_there fs (m + 1) k e there in
    let number : m + 1 + k ≡ m + suc k = omega arith in
    behind (m, f) (f.seat.0 == e.seat.0) (numbered_calls e.seat.0 (m + 1) fs) (m + suc k, e) (t.0, t.1 ∙ ap (λ n. Some (n, e)) number)

-- an event at whose entry a query settles is one that may settle queries
may_have : (jmax : ℕ) (h : List (Entry Meaning)) (n k : ℕ) (e : Entry Meaning) → IsLegal jmax h → slice_get h n ≡ Some e → SettlesNow (take (n + 1) h) k → may_settle e.event ≡ true
may_have jmax h n k e legal there settles = by (cases_Bool (may_settle e.event))
  where
    pushed : take (n + 1) h ≡ take n h ++ e ∷ []
    pushed = taken_more h n e there

    by : (may_settle e.event ≡ true) ⊎ (may_settle e.event ≡ false) → may_settle e.event ≡ true
    by (inl may) = may
    by (inr quiet) = absurd (quiet_settles_none jmax (take n h) e (subst (IsLegal jmax) pushed (front_legal jmax h (n + 1) legal)) (unstirred (state (take n h)) e.seat.0 e.event e.reply quiet) k (subst (λ es. SettlesNow es k) pushed settles))

tells_at : (N : Type 0) (jmax : ℕ) (h : List (Entry Meaning)) (note : ℕ) (outcome : Outcome) → IsLegal jmax h → (e : NoteEnded h note outcome) → (n : ℕ) → e.at ≡ n + 1 → TellsNote N h note outcome
tells_at N jmax h note outcome legal e n at = record {
  number = n;
  entry = x.0;
  there = x.1;
  may = may_have jmax h n e.number x.0 legal x.1 (subst (λ k. SettlesNow (take k h) e.number) at (settles_there h e.number e.at e.end e.ended));
  tells = tells;
}
  where
    x : (y : Entry Meaning) × (slice_get h n ≡ Some y)
    x = row_below h n (omega (arith, at, e.ended.settles.here))

    tells : (told : List (Notice N)) → ToldAt h (numbered_calls x.0.seat.0 1 h) told → IsAmong note outcome told
    tells told whole =
        let i = numbered_there h 1 n x.0 x.1 in
        let number : 1 + n ≡ e.at = omega (arith, at) in
        let t = told_in h (numbered_calls x.0.seat.0 1 h) told whole i.0 (1 + n) x.0 i.1 in
        let f = ended_told h note outcome e t.now (subst (λ k. AreTold (take k h) t.now) number t.are) in
        let one = t.among f.1 (f.0, f.2) in
        (one.0, f.1, one.1, f.3, f.4)

pub ended_are_told : {N : Type 0} → EndedAreTold N
ended_are_told {N} jmax h note outcome legal e = from e.at refl
  where
    asked : 0 < e.ended.query.asked
    asked = (query_was_asked h e.number e.ended.query e.ended.there).0

    from : (n : ℕ) → e.at ≡ n → TellsNote N h note outcome
    from zero at = absurd (omega (arith, asked, e.ended.settles.from, at))
    from (suc n) at = tells_at N jmax h note outcome legal e n (omega (arith, at))
