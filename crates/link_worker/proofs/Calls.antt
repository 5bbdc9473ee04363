-- The calls of a seat in a history that was closed.
use Rattle.std.proofs.Common.{◌≡◌, ℕ, zero, suc, ◌+◌, ◌<◌, ◌≤◌, ◌⊎◌, inl, inr, cond, List, [], ◌∷◌, ◌++◌, length, append-nil, refl, sym, ap, subst, ◌∙◌, arith, All, Option, Some, None, slice_get}
use Rattle.std.proofs.lemmas.Bool.{cases_eq, eq-eqb, ne_eqb}
use Rattle.std.proofs.lemmas.List.{map-append}
use Rattle.std.proofs.lemmas.List.Elements.{All-cons, All-head, All-nil, All-tail}
use Rattle.session_model.specs.Calls.{numbered_calls}
use Rattle.session_model.specs.Meaning.{Meaning}
use Rattle.session_model.specs.State.{plain_entry, plain_history}
use Rattle.session_model.specs.declared.entry.Entry.{Entry}
use Rattle.session_laws.proofs.Declared.{call_first, call_skipped}
use Rattle.turn_lock.specs.declared.view.View.{View}
use Rattle.turn_lock.specs.Lists.{entries_of}
use Rattle.turn_lock.proofs.Entries.{none_since}
use Rattle.shared_session.specs.Home.{seat_of}
use Rattle.shared_session.specs.Did.{Did, Promise, calls_in}
use Rattle.shared_session.proofs.Numbers.{numbered_append, numbered_none, plain_starts}
use Rattle.crew.specs.Crew.{IsKept}

pub some_is : {X : Type 0} (y x : X) → ◌≡◌ {A = Option X} (Some y) (Some x) → y ≡ x
some_is y x e = cc

-- an entry is a call of its seat, with its number
pub call_at : (s n k : ℕ) (h : List (Entry Meaning)) (e : Entry Meaning) → slice_get h k ≡ Some e → e.seat.0 ≡ s → (j : ℕ) × (slice_get (numbered_calls s n h) j ≡ Some (n + k, e))
call_at s n k [] e there its = absurd (nothing e there)
  where
    nothing : (e : Entry Meaning) → ◌≡◌ {A = Option (Entry Meaning)} None (Some e) → ⊥
    nothing e there = cc
call_at s n zero (x ∷ xs) e there its =
    let is : x ≡ e = some_is x e there in
    (0, ap (λ l. slice_get l 0) (call_first s n x xs (ap (λ (y : Entry Meaning). y.seat.0) is ∙ its)) ∙ (ap (λ (y : Entry Meaning). Some (n, y)) is ∙ ap (λ i. Some (i, e)) (omega arith)))
call_at s n (suc k) (x ∷ xs) e there its = by_seat (call_at s (n + 1) k xs e there its) (cases_eq x.seat.0 s)
  where
    number : ◌≡◌ {A = Option (ℕ × Entry Meaning)} (Some ((n + 1) + k, e)) (Some (n + suc k, e))
    number = ap (λ i. Some (i, e)) (omega arith)

    by_seat : ((j : ℕ) × (slice_get (numbered_calls s (n + 1) xs) j ≡ Some ((n + 1) + k, e))) → (x.seat.0 ≡ s) ⊎ (x.seat.0 ≡ s → ⊥) → (j : ℕ) × (slice_get (numbered_calls s n (x ∷ xs)) j ≡ Some (n + suc k, e))
    by_seat (j, at) (inl is) = (suc j, ap (λ l. slice_get l (suc j)) (call_first s n x xs is) ∙ (at ∙ number))
    by_seat (j, at) (inr apart) = (j, ap (λ l. slice_get l j) (call_skipped s n x xs apart) ∙ (at ∙ number))

module _ {U : Type 0} where
  -- entries of seat 0 are no other seat's
  pub none_of_other : (s : ℕ) (es : List (Entry U)) → 0 < s → All (λ (e : Entry U). e.seat.0 ≡ 0) es → entries_of seat_of s es ≡ []
  none_of_other s [] some all = refl
  none_of_other s (e ∷ es) some all =
      let zeroth = All-head (λ (x : Entry U). x.seat.0 ≡ 0) e es all in
      ap (λ c. cond c (e ∷ entries_of seat_of s es) (entries_of seat_of s es)) (ne_eqb (seat_of e) s (λ is. omega (arith, is, zeroth, some)))
      ∙ none_of_other s es some (All-tail (λ (x : Entry U). x.seat.0 ≡ 0) e es all)

  -- a seat beyond all has no entry
  pub none_beyond : (seats s : ℕ) (es : List (Entry U)) → seats ≤ s → All (λ (e : Entry U). seat_of e < seats) es → entries_of seat_of s es ≡ []
  none_beyond seats s [] far all = refl
  none_beyond seats s (e ∷ es) far all =
      let below = All-head (λ (x : Entry U). seat_of x < seats) e es all in
      ap (λ c. cond c (e ∷ entries_of seat_of s es) (entries_of seat_of s es)) (ne_eqb (seat_of e) s (λ is. omega (arith, is, below, far)))
      ∙ none_beyond seats s es far (All-tail (λ (x : Entry U). seat_of x < seats) e es all)

  -- where seat 0 has no entry, each entry is of a later seat
  pub later_seats : (es : List (Entry U)) → entries_of seat_of 0 es ≡ [] → All (λ (e : Entry U). 0 < e.seat.0) es
  later_seats [] none = All-nil (λ (e : Entry U). 0 < e.seat.0)
  later_seats (e ∷ es) none = by_seat (later_seats es) (cases_eq (seat_of e) 0)
    where
      by_seat : (entries_of seat_of 0 es ≡ [] → All (λ (x : Entry U). 0 < x.seat.0) es) → (seat_of e ≡ 0) ⊎ (seat_of e ≡ 0 → ⊥) → All (λ (x : Entry U). 0 < x.seat.0) (e ∷ es)
      by_seat rest (inl is) = let some : length (e ∷ entries_of seat_of 0 es) ≡ 0 = ap length (sym (ap (λ c. cond c (e ∷ entries_of seat_of 0 es) (entries_of seat_of 0 es)) (eq-eqb (seat_of e) 0 is)) ∙ none) in absurd (omega arith)
      by_seat rest (inr apart) = All-cons (λ (x : Entry U). 0 < x.seat.0) e es (some_seat (seat_of e) apart)
          (rest (sym (ap (λ c. cond c (e ∷ entries_of seat_of 0 es) (entries_of seat_of 0 es)) (ne_eqb (seat_of e) 0 apart)) ∙ none))
        where
          some_seat : (n : ℕ) → (n ≡ 0 → ⊥) → 0 < n
          some_seat zero apart = absurd (apart refl)
          some_seat (suc n) apart = omega arith

module _ {U : Type 0} (means : U → Meaning) where
  -- the calls of a seat that made none beyond what it has seen
  pub calls_kept : (log : List (Entry U)) (w : View (Entry U)) → IsKept seat_of log w → calls_in means w.number log ≡ calls_in means w.number w.seen
  calls_kept log w k =
      let rest = k.later.0 in
      let none = none_since seat_of w.number (entries_of seat_of w.number w.seen) w.seen rest refl (ap (entries_of seat_of w.number) (sym k.later.1) ∙ k.own) in
      ap (λ l. calls_in means w.number l) k.later.1
      ∙ (ap (numbered_calls w.number 1) (map-append (plain_entry means) w.seen rest)
      ∙ (numbered_append w.number 1 (plain_history means w.seen) (plain_history means rest)
      ∙ (ap (λ l. calls_in means w.number w.seen ++ l) (numbered_none means w.number (1 + length (plain_history means w.seen)) rest none) ∙ append-nil (calls_in means w.number w.seen))))

  -- what a seat did that was given out new, by the whole history
  pub record Made (log : List (Entry U)) (s : ℕ) (P : Promise) : Type 0 where
    pub made : List (ℕ × Entry Meaning)
    pub calls : calls_in means s log ≡ made
    pub holds : P (plain_history means log) made

  pub member_made : (log : List (Entry U)) (s : ℕ) (v w : View (Entry U)) (P : Promise) → 0 < s → v.number ≡ s → w.number ≡ s → All (λ (e : Entry U). e.seat.0 ≡ 0) v.seen → IsKept seat_of log w → Did means v w P → Made log s P
  member_made log s v w P some number same own kept did =
      let none : calls_in means s v.seen ≡ [] = numbered_none means s 1 v.seen (none_of_other s v.seen some own) in
      let whole : calls_in means s log ≡ calls_in means s w.seen = subst (λ n. calls_in means n log ≡ calls_in means n w.seen) same (calls_kept log w kept) in
      record {
        made = did.made;
        calls = whole ∙ (subst (λ n. calls_in means n w.seen ≡ calls_in means n v.seen ++ did.made) number did.calls ∙ ap (λ l. l ++ did.made) none);
        holds = did.holds (plain_history means log) (plain_starts means log w.seen kept.later);
      }
