-- A book whose queries were told of the changes, and those that were found to be met have ended.
use Rattle.std.proofs.Common.{◌≡◌, ◌≢◌, ⊎_elim, ℕ, Bool, true, false, Option, Some, None, ◌+◌, ◌<◌, ◌≤◌, List, [], ◌∷◌, ◌++◌, length, set, zero, suc, refl, ap, sym, ◌∙◌, cond, subst, arith, length-set}
use Rattle.std.specs.Prelude.{◌==◌, nat_le, is_some, slice_get, option_to_list}
use Rattle.std.specs.List.{filter_map}
use Rattle.std.specs.Option.{option_map_or}
use Rattle.std.proofs.lemmas.Bool.Decides.{eqb_tells, leb_tells}
use Rattle.std.proofs.lemmas.Option.{slice_get_within}
use Rattle.list_laws.proofs.Lists.{some_below, set_there}
use Rattle.list_laws.proofs.Bools.{bool_same}
use Rattle.orc_ids.specs.declared.ids.InstId.{InstId}
use Rattle.orc_ids.specs.declared.lookup.Level.{Level}
use Rattle.session_model.specs.Query.{Stand}
use Rattle.session_model.specs.declared.rows.Query.{Query}
use Rattle.query_book.specs.declared.ends.QueryEnd.{QueryEnd}
use Rattle.query_book.specs.declared.board.Board.{Board}
use Rattle.query_book.specs.Stands.{is_met, ending}
use Rattle.query_book.specs.Counts.{count, total, list_at}
use Rattle.query_book.specs.Marks.{left_at, found_at, one_if}
use Rattle.query_book.specs.Board.{waiting, Watches}
use Rattle.query_book.specs.Rows.{Account, ended_one, ended_all, unit_of}
use Rattle.query_book.specs.Ledger.{settles, settling, IsSeen}
use Rattle.query_book.specs.Kept.{waited, ledger, ended_at, IsKept}
use Rattle.query_book.proofs.Parts.{count_same}
use Rattle.query_book.proofs.Marking.{found_past}
use Rattle.query_book.proofs.Endings.{ended_other}
use Rattle.query_book.proofs.Rising.{settles_at, exactly, Rising}
use Rattle.query_book.proofs.Settling.{IsSettling, found_is_met, met_is_found, still_missing, decided_at, waits_at}

settles_there : (s : ℕ → Stand) (k : ℕ) (qs : List Query) (ends : List (Option QueryEnd)) (q : Query) (e : Option QueryEnd) → slice_get qs k ≡ Some q → slice_get ends k ≡ Some e → settles_at s k qs ends ≡ settles s q e
settles_there s k [] ends q e a b = absurd cc
settles_there s k (p ∷ qs) [] q e a b = absurd cc
settles_there s zero (p ∷ qs) (f ∷ ends) q e a b = let g : p ≡ q = cc in let h : f ≡ e = cc in ap (λ x. settles s x f) g ∙ ap (settles s q) h
settles_there s (suc k) (p ∷ qs) (f ∷ ends) q e a b = settles_there s k qs ends q e a b

settles_past : (s : ℕ → Stand) (k : ℕ) (qs : List Query) (ends : List (Option QueryEnd)) → length qs ≤ k → settles_at s k qs ends ≡ false
settles_past s k [] ends past = refl
settles_past s k (q ∷ qs) [] past = refl
settles_past s zero (q ∷ qs) (e ∷ ends) past = absurd (omega (arith, past))
settles_past s (suc k) (q ∷ qs) (e ∷ ends) past = settles_past s k qs ends (omega (arith, past))

small : (b : Bool) → one_if b ≤ 1
small true = omega arith
small false = omega arith

no_one : (b : Bool) → one_if b ≡ 0 → b ≡ false
no_one true z = absurd (omega (arith, z))
no_one false z = refl

-- what was found is listed, or has ended
pub met_eq : {N : Type 0} (s : ℕ → Stand) (changed : List InstId) (a : Account N) (b c : Board) (k : ℕ) → IsSettling s changed a b c → count k c.marks.met + ended_at a.ends k ≡ one_if (found_at c.marks.marks k)
met_eq s changed a b c k t = omega (arith, t.kept.met k, t.heard.hearing.hears.met k)

at_end : (ends : List (Option QueryEnd)) (k : ℕ) (e : Option QueryEnd) → slice_get ends k ≡ Some e → ended_at ends k ≡ one_if (is_some e)
at_end ends k e is = ap (λ (o : Option (Option QueryEnd)). one_if (option_map_or is_some o false)) is

-- those that are listed are those that settle
pub counted : {N : Type 0} (s : ℕ → Stand) (changed : List InstId) (a : Account N) (b c : Board) (k : ℕ) → IsSettling s changed a b c → count k c.marks.met ≡ one_if (settles_at s k a.queries a.ends)
counted s changed a b c k t = ⊎_elim (λ (e : (nat_le (suc k) (length a.queries) ≡ true) × (suc k ≤ length a.queries)). inside e.1) (λ (e : (nat_le (suc k) (length a.queries) ≡ false) × (length a.queries < suc k)). outside (omega (arith, e.1))) (leb_tells (suc k) (length a.queries))
  where
    m : count k c.marks.met + ended_at a.ends k ≡ one_if (found_at c.marks.marks k)
    m = met_eq s changed a b c k t

    outside : length a.queries ≤ k → count k c.marks.met ≡ one_if (settles_at s k a.queries a.ends)
    outside past =
        let f : one_if (found_at c.marks.marks k) ≡ 0 = ap one_if (found_past c.marks.marks k (omega (arith, past, t.heard.hearing.watches.size))) in
        let g : one_if (settles_at s k a.queries a.ends) ≡ 0 = ap one_if (settles_past s k a.queries a.ends past) in
        omega (arith, m, f, g)

    known : (q : Query) (e : Option QueryEnd) → slice_get a.queries k ≡ Some q → slice_get a.ends k ≡ Some e → count k c.marks.met ≡ one_if (settles s q e)
    known q None here end =
        let z : ended_at a.ends k ≡ 0 = at_end a.ends k None end in
        let f : one_if (found_at c.marks.marks k) ≡ one_if (is_met s q) = ap one_if (bool_same (found_at c.marks.marks k) (is_met s q) (λ x. found_is_met s changed a b c k q t here end x) (λ x. met_is_found s changed a b c k q t here end x)) in
        omega (arith, m, z, f)
    known q (Some x) here end =
        let z : ended_at a.ends k ≡ 1 = at_end a.ends k (Some x) end in
        let f : one_if (found_at c.marks.marks k) ≤ 1 = small (found_at c.marks.marks k) in
        omega (arith, m, z, f)

    inside : suc k ≤ length a.queries → count k c.marks.met ≡ one_if (settles_at s k a.queries a.ends)
    inside less =
        let q = some_below a.queries k less in
        let e = some_below a.ends k (omega (arith, less, t.kept.ends)) in
        known q.0 e.0 q.1 e.1 ∙ sym (ap one_if (settles_there s k a.queries a.ends q.0 e.0 q.1 e.1))

-- a query that is listed is open
pub listed_is_open : {N : Type 0} (s : ℕ → Stand) (changed : List InstId) (a : Account N) (b c : Board) (k : ℕ) → IsSettling s changed a b c → 0 < count k c.marks.met → slice_get a.ends k ≡ Some None
listed_is_open s changed a b c k t pos = ⊎_elim (λ (e : (nat_le (suc k) (length a.ends) ≡ true) × (suc k ≤ length a.ends)). let x = some_below a.ends k e.1 in step x.0 x.1) (λ (e : (nat_le (suc k) (length a.ends) ≡ false) × (length a.ends < suc k)). absurd (outside (omega (arith, e.1)))) (leb_tells (suc k) (length a.ends))
  where
    m : count k c.marks.met + ended_at a.ends k ≡ one_if (found_at c.marks.marks k)
    m = met_eq s changed a b c k t

    outside : length a.ends ≤ k → ⊥
    outside past = let f : one_if (found_at c.marks.marks k) ≡ 0 = ap one_if (found_past c.marks.marks k (omega (arith, past, t.heard.hearing.watches.size, t.kept.ends))) in omega (arith, m, f, pos)

    step : (e : Option QueryEnd) → slice_get a.ends k ≡ Some e → slice_get a.ends k ≡ Some None
    step None is = is
    step (Some x) is = absurd (let z : ended_at a.ends k ≡ 1 = at_end a.ends k (Some x) is in let f : one_if (found_at c.marks.marks k) ≤ 1 = small (found_at c.marks.marks k) in omega (arith, m, z, f, pos))

one_queries : {N : Type 0} (at : ℕ) (s : ℕ → Stand) (k : ℕ) (a : Account N) → ((ended_one at s k a).queries ≡ a.queries) × (length (ended_one at s k a).ends ≡ length a.ends) × (length (ended_one at s k a).armed ≡ length a.armed)
one_queries {N} at s k a = step (slice_get a.queries k)
  where
    to : Query → Account N
    to q = record { queries = a.queries; ends = set a.ends k (Some (record { at = at; end = ending s q })); armed = set a.armed k None; due = a.due ++ option_to_list (unit_of q) }

    step : (o : Option Query) → ((option_map_or (λ q. record { queries = a.queries; ends = set a.ends k (Some (record { at = at; end = ending s q })); armed = set a.armed k None; due = a.due ++ option_to_list (unit_of q) }) o a).queries ≡ a.queries) × (length (option_map_or (λ q. record { queries = a.queries; ends = set a.ends k (Some (record { at = at; end = ending s q })); armed = set a.armed k None; due = a.due ++ option_to_list (unit_of q) }) o a).ends ≡ length a.ends) × (length (option_map_or (λ q. record { queries = a.queries; ends = set a.ends k (Some (record { at = at; end = ending s q })); armed = set a.armed k None; due = a.due ++ option_to_list (unit_of q) }) o a).armed ≡ length a.armed)
    step None = (refl, refl, refl)
    step (Some q) = (refl, length-set a.ends k _, length-set a.armed k None)

-- the end of some queries keeps the others
pub all_queries : {N : Type 0} (at : ℕ) (s : ℕ → Stand) (ks : List ℕ) (a : Account N) → ((ended_all at s ks a).queries ≡ a.queries) × (length (ended_all at s ks a).ends ≡ length a.ends) × (length (ended_all at s ks a).armed ≡ length a.armed)
all_queries at s [] a = (refl, refl, refl)
all_queries at s (k ∷ ks) a = let r = all_queries at s ks (ended_one at s k a) in let o = one_queries at s k a in (r.0 ∙ o.0, r.1 ∙ o.1, r.2 ∙ o.2)

ended_here : {N : Type 0} (at : ℕ) (s : ℕ → Stand) (k : ℕ) (a : Account N) (q : Query) → slice_get a.queries k ≡ Some q → k < length a.ends → ended_at (ended_one at s k a).ends k ≡ 1
ended_here {N} at s k a q here less =
    let e : ended_one at s k a ≡ record { queries = a.queries; ends = set a.ends k (Some (record { at = at; end = ending s q })); armed = set a.armed k None; due = a.due ++ option_to_list (unit_of q) } = ap (λ (x : Option Query). option_map_or (λ q. record { queries = a.queries; ends = set a.ends k (Some (record { at = at; end = ending s q })); armed = set a.armed k None; due = a.due ++ option_to_list (unit_of q) }) x a) here in
    ap (λ (x : Account N). ended_at x.ends k) e ∙ at_end (set a.ends k (Some (record { at = at; end = ending s q }))) k (Some (record { at = at; end = ending s q })) (set_there a.ends k (Some (record { at = at; end = ending s q })) less)

-- each of some open queries has ended, and no other
pub all_ended : {N : Type 0} (at : ℕ) (s : ℕ → Stand) (ks : List ℕ) (a : Account N) (j : ℕ) → length a.ends ≡ length a.queries → ((k : ℕ) → count k ks ≤ 1) → ((k : ℕ) → 0 < count k ks → slice_get a.ends k ≡ Some None) → ended_at (ended_all at s ks a).ends j ≡ ended_at a.ends j + count j ks
all_ended at s [] a j same once unended = omega arith
all_ended at s (k ∷ ks) a j same once unended =
    let o = one_queries at s k a in
    let first : slice_get a.ends k ≡ Some None = unended k (let c : count k (k ∷ ks) ≡ suc (count k ks) = count_same k ks in omega (arith, c)) in
    let less : k < length a.ends = slice_get_within a.ends k None first in
    let q = some_below a.queries k (omega (arith, less, same)) in
    let rest : ended_at (ended_all at s ks (ended_one at s k a)).ends j ≡ ended_at (ended_one at s k a).ends j + count j ks =
    all_ended at s ks (ended_one at s k a) j (o.1 ∙ same ∙ ap length (sym o.0)) (λ i. let h : count i (k ∷ ks) ≤ 1 = once i in omega (arith, h))
    (λ i pos. ended_other at s k i a (λ f. let d : count i (k ∷ ks) ≡ suc (count i ks) = subst (λ x. count i (x ∷ ks) ≡ suc (count i ks)) (sym f) (count_same i ks) in let h : count i (k ∷ ks) ≤ 1 = once i in omega (arith, d, h, pos)) ∙ unended i (omega (arith, pos))) in
    let here : ended_at (ended_one at s k a).ends j ≡ ended_at a.ends j + one_if (k == j) =
    ⊎_elim (λ (e : ((k == j) ≡ true) × (k ≡ j)).
    let x : ended_at (ended_one at s k a).ends j ≡ 1 = subst (λ i. ended_at (ended_one at s k a).ends i ≡ 1) e.1 (ended_here at s k a q.0 q.1 less) in
    let y : ended_at a.ends j ≡ 0 = subst (λ i. ended_at a.ends i ≡ 0) e.1 (at_end a.ends k None first) in
    let z : one_if (k == j) ≡ 1 = ap one_if e.0 in
    omega (arith, x, y, z))
    (λ (e : ((k == j) ≡ false) × (k ≢ j)).
    let x : ended_at (ended_one at s k a).ends j ≡ ended_at a.ends j = ap (λ (o : Option (Option QueryEnd)). one_if (option_map_or is_some o false)) (ended_other at s k j a e.1) in
    let z : one_if (k == j) ≡ 0 = ap one_if e.0 in
    omega (arith, x, z))
    (eqb_tells k j) in
    omega (arith, rest, here)

pub watches_again : (qs : List Query) (c d : Board) → Watches qs c → ((l : Level) → waiting d l ≡ waiting c l) → d.all.lists ≡ c.all.lists → d.marks.marks ≡ c.marks.marks → Watches qs d
watches_again qs c d w same all marks = record {
  size = ap length marks ∙ w.size;
  heard_of = λ k i q here new m. subst (λ ls. 0 < count k (list_at ls i)) (sym all) (w.heard_of k i q here (ap (λ ms. found_at ms k) (sym marks) ∙ new) m);
  own = λ k i pos. w.own k i (subst (λ ls. 0 < count k (list_at ls i)) all pos);
  own_waiting = λ l k i pos. w.own_waiting l k i (subst (λ ls. 0 < count k (list_at ls i)) (same l) pos);
  left = λ k q here. ap (λ ms. left_at ms k) marks ∙ w.left k q here ∙ ap (λ ls. total k ls) (sym (same q.level));
  waits = λ k less new. subst (λ ms. 0 < left_at ms k) (sym marks) (w.waits k less (ap (λ ms. found_at ms k) (sym marks) ∙ new));
}

-- the listed queries have ended
pub record IsFinished {N : Type 0} (at : ℕ) (s : ℕ → Stand) (changed : List InstId) (a a' : Account N) (b c d : Board) (xs : List ℕ) : Type 0 where
  pub settling_of : IsSettling s changed a b c
  pub counts : (k : ℕ) → count k xs ≡ count k c.marks.met
  pub once : (k : ℕ) → count k xs ≤ 1
  pub rows : a' ≡ ended_all at s xs a
  pub waits : (l : Level) → waiting d l ≡ waiting c l
  pub all : d.all.lists ≡ c.all.lists
  pub marks : d.marks.marks ≡ c.marks.marks
  pub none : d.marks.met ≡ []

ends_of : {N : Type 0} (at : ℕ) (s : ℕ → Stand) (changed : List InstId) (a a' : Account N) (b c d : Board) (xs : List ℕ) (k : ℕ) → IsFinished at s changed a a' b c d xs → ended_at a'.ends k ≡ one_if (found_at c.marks.marks k)
ends_of {N} at s changed a a' b c d xs k f =
    let t = f.settling_of in
    let e : ended_at (ended_all at s xs a).ends k ≡ ended_at a.ends k + count k xs = all_ended at s xs a k t.kept.ends f.once (λ i pos. listed_is_open s changed a b c i t (omega (arith, pos, f.counts i))) in
    let g : ended_at a'.ends k ≡ ended_at (ended_all at s xs a).ends k = ap (λ (x : Account N). ended_at x.ends k) f.rows in
    let m = met_eq s changed a b c k t in
    omega (arith, e, g, m, f.counts k)

pub finished_kept : {N : Type 0} (at : ℕ) (s : ℕ → Stand) (changed : List InstId) (a a' : Account N) (b c d : Board) (xs : List ℕ) → IsFinished at s changed a a' b c d xs → IsKept a' d
finished_kept {N} at s changed a a' b c d xs f =
    let t = f.settling_of in
    let r = all_queries at s xs a in
    let qs : a'.queries ≡ a.queries = ap (λ (x : Account N). x.queries) f.rows ∙ r.0 in
    record {
      ends = ap (λ (x : Account N). length x.ends) f.rows ∙ r.1 ∙ t.kept.ends ∙ ap length (sym qs);
      armed = ap (λ (x : Account N). length x.armed) f.rows ∙ r.2 ∙ t.kept.armed ∙ ap length (sym qs);
      watches = subst (λ q. Watches q d) (sym qs) (watches_again a.queries c d t.heard.hearing.watches f.waits f.all f.marks);
      met = λ k.
          let z : count k d.marks.met ≡ 0 = ap (λ l. count k l) f.none in
          let e = ends_of at s changed a a' b c d xs k f in
          let g : one_if (found_at d.marks.marks k) ≡ one_if (found_at c.marks.marks k) = ap (λ ms. one_if (found_at ms k)) f.marks in
          omega (arith, z, e, g);
    }

-- an open query was open before, and wasn't found
open_before : {N : Type 0} (at : ℕ) (s : ℕ → Stand) (changed : List InstId) (a a' : Account N) (b c d : Board) (xs : List ℕ) (k : ℕ) → IsFinished at s changed a a' b c d xs → slice_get a'.ends k ≡ Some None → (found_at c.marks.marks k ≡ false) × (slice_get a.ends k ≡ Some None)
open_before {N} at s changed a a' b c d xs k f is = (no_one (found_at c.marks.marks k) zero_found, step x.0 x.1)
  where
    zero_found : one_if (found_at c.marks.marks k) ≡ 0
    zero_found = sym (ends_of at s changed a a' b c d xs k f) ∙ at_end a'.ends k None is

    less : k < length a.ends
    less = let h : k < length a'.ends = slice_get_within a'.ends k None is in let l : length a'.ends ≡ length a.ends = ap (λ (x : Account N). length x.ends) f.rows ∙ (all_queries at s xs a).1 in omega (arith, h, l)

    x : (e : Option QueryEnd) × (slice_get a.ends k ≡ Some e)
    x = some_below a.ends k less

    step : (e : Option QueryEnd) → slice_get a.ends k ≡ Some e → slice_get a.ends k ≡ Some None
    step None here = here
    step (Some e) here = absurd (let z : ended_at a.ends k ≡ 1 = at_end a.ends k (Some e) here in let m = met_eq s changed a b c k f.settling_of in omega (arith, z, m, zero_found))

pub finished_seen : {N : Type 0} (at : ℕ) (s : ℕ → Stand) (changed : List InstId) (a a' : Account N) (b c d : Board) (xs : List ℕ) → IsFinished at s changed a a' b c d xs → IsSeen s (ledger a' d)
finished_seen {N} at s changed a a' b c d xs f = record {
  unmet = λ k q here is.
      let o = open_before at s changed a a' b c d xs k f is in
      bool_same (is_met s q) false (λ e. sym o.0 ∙ met_is_found s changed a b c k q f.settling_of (old k q here) o.1 e) (λ (e : false ≡ true). absurd cc);
  undecided = λ k q here is. decided_at d.marks.marks k (less k q here) ∙ ap (λ (v : Bool). Some v) (new k is);
  waiting = λ k q here is.
      waits_at 0 k k d a'.queries q (omega arith) here ∙ ap (λ v. Some (cond v [] (filter_map (waited (waiting d q.level) k) q.matched))) (new k is)
      ∙ ap (λ ls. Some (filter_map (waited ls k) q.matched)) (f.waits q.level)
      ∙ ap (λ (l : List InstId). Some l) (still_missing s changed a b c k q f.settling_of (old k q here) (open_before at s changed a a' b c d xs k f is).1 (open_before at s changed a a' b c d xs k f is).0);
}
  where
    qs : a'.queries ≡ a.queries
    qs = ap (λ (x : Account N). x.queries) f.rows ∙ (all_queries at s xs a).0

    old : (k : ℕ) (q : Query) → slice_get a'.queries k ≡ Some q → slice_get a.queries k ≡ Some q
    old k q here = subst (λ l. slice_get l k ≡ Some q) qs here

    less : (k : ℕ) (q : Query) → slice_get a'.queries k ≡ Some q → k < length d.marks.marks
    less k q here = let h : k < length a.queries = slice_get_within a.queries k q (old k q here) in let m : length d.marks.marks ≡ length c.marks.marks = ap length f.marks in omega (arith, h, m, f.settling_of.heard.hearing.watches.size)

    new : (k : ℕ) → slice_get a'.ends k ≡ Some None → found_at d.marks.marks k ≡ false
    new k is = ap (λ ms. found_at ms k) f.marks ∙ (open_before at s changed a a' b c d xs k f is).0

-- the numbers in rising order are those that settle
pub settling_is : {N : Type 0} (at : ℕ) (s : ℕ → Stand) (changed : List InstId) (a a' : Account N) (b c d : Board) (xs : List ℕ) → IsFinished at s changed a a' b c d xs → Rising 0 xs → xs ≡ settling 0 s a.queries a.ends
settling_is at s changed a a' b c d xs f r = exactly s 0 a.queries a.ends xs r (λ n. let z : n + 0 ≡ n = omega arith in subst (λ j. count j xs ≡ one_if (settles_at s n a.queries a.ends)) (sym z) (f.counts n ∙ counted s changed a b c n f.settling_of))
