-- One more query on the board.
use Rattle.std.proofs.Common.{◌≡◌, ◌≢◌, ◌⊎◌, inl, inr, ⊎_elim, ℕ, Bool, true, false, Option, Some, None, ◌+◌, ◌<◌, ◌≤◌, List, [], ◌∷◌, ◌++◌, length, map, set, zero, suc, refl, ap, sym, ◌∙◌, cond, subst, arith, length-set, length-append}
use Rattle.std.specs.Prelude.{◌==◌, ◌||◌, ◌&&◌, not, nat_lt, is_some, slice_get, Result, Ok, Err, OnErr}
use Rattle.std.specs.List.{filter_map, cons_option}
use Rattle.std.specs.Option.{option_map_or}
use Rattle.std.proofs.lemmas.Bool.Decides.{eqb_tells}
use Rattle.std.proofs.lemmas.List.{map-append, length-map}
use Rattle.std.proofs.lemmas.Option.{slice_get_within}
use Rattle.std.proofs.lemmas.Bool.{and_parts, or_cases}
use Rattle.list_laws.proofs.Bools.{bool_same}
use Rattle.list_laws.proofs.Lists.{appended_below, pushed_last}
use Rattle.orc_ids.specs.declared.ids.InstId.{InstId}
use Rattle.orc_ids.specs.declared.lookup.Level.{Level}
use Rattle.orc_ids.specs.declared.lookup.Level.TheVariants.{Resolved, Ready}
use Rattle.session_model.specs.Lists.{only_if}
use Rattle.session_model.specs.Query.{Stand}
use Rattle.session_model.specs.declared.rows.Query.{Query}
use Rattle.query_book.specs.declared.board.Board.{Board}
use Rattle.query_book.specs.declared.marks.Mark.{Mark}
use Rattle.query_book.specs.Stands.{at_level, all_at, is_met, first_lost, is_matched, missing, missing_of}
use Rattle.query_book.specs.Counts.{count, total, list_at}
use Rattle.query_book.specs.Lists.{HasLists}
use Rattle.query_book.specs.Marks.{left_at, found_at, one_if}
use Rattle.query_book.specs.Board.{waiting, listed, Watches, HasRoom, IsSame, IsWatched}
use Rattle.query_book.specs.declared.ends.QueryEnd.{QueryEnd}
use Rattle.notifiers.specs.declared.notice.Unheard.{Unheard}
use Rattle.query_book.specs.Rows.{Account, with_query, without_first}
use Rattle.query_book.specs.Ledger.{lodged, waits_of, IsCurrent}
use Rattle.query_book.specs.Kept.{waited, waits_from, ledger, ended_at, IsKept}
use Rattle.query_book.proofs.Parts.{list_here, list_other, total_set, count_same, count_apart, get_push, total_none, count-push}
use Rattle.query_book.proofs.Endings.{length_first}
use Rattle.query_book.proofs.Marking.{found_read, left_read, found_push, found_past}
use Rattle.query_book.proofs.Listing.{has_same, has_missing, none_missing}
use Rattle.query_book.proofs.Settling.{filter_same, positive, is_positive}

pub same_watches : (qs : List Query) (b c : Board) → Watches qs b → IsSame b c → Watches qs c
same_watches qs b c w e = record {
  size = ap length e.marks ∙ w.size;
  heard_of = λ k i q here new m. subst (λ l. 0 < count k l) (sym (e.all i)) (w.heard_of k i q here (ap (λ ms. found_at ms k) (sym e.marks) ∙ new) m);
  own = λ k i pos. w.own k i (subst (λ l. 0 < count k l) (e.all i) pos);
  own_waiting = λ l k i pos. w.own_waiting l k i (subst (λ xs. 0 < count k xs) (e.lists l i) pos);
  left = λ k q here. ap (λ ms. left_at ms k) e.marks ∙ w.left k q here ∙ sym (e.totals q.level k);
  waits = λ k less new. subst (λ ms. 0 < left_at ms k) (sym e.marks) (w.waits k less (ap (λ ms. found_at ms k) (sym e.marks) ∙ new));
}

-- the lists after one instance
put : ℕ → InstId → List (List ℕ) → List (List ℕ)
put query i ls = set ls i.0 (query ∷ list_at ls i.0)

put_other : (query k : ℕ) (i : InstId) (j : ℕ) (ls : List (List ℕ)) → k ≢ query → i.0 < length ls → count k (list_at (set ls i.0 (query ∷ list_at ls i.0)) j) ≡ count k (list_at ls j)
put_other query k i j ls apart less =
    ⊎_elim (λ (e : ((j == i.0) ≡ true) × (j ≡ i.0)). subst (λ n. count k (list_at (set ls i.0 (query ∷ list_at ls i.0)) n) ≡ count k (list_at ls n)) (sym e.1) (ap (λ l. count k l) (list_here ls i.0 (query ∷ list_at ls i.0) less) ∙ count_apart k query (list_at ls i.0) (λ f. apart (sym f))))
    (λ (e : ((j == i.0) ≡ false) × (j ≢ i.0)). ap (λ l. count k l) (list_other ls i.0 j (query ∷ list_at ls i.0) e.1))
    (eqb_tells j i.0)

put_here : (query : ℕ) (i : InstId) (j : ℕ) (ls : List (List ℕ)) → i.0 < length ls → count query (list_at (set ls i.0 (query ∷ list_at ls i.0)) j) ≡ count query (list_at ls j) + one_if (i.0 == j)
put_here query i j ls less =
    ⊎_elim (λ (e : ((i.0 == j) ≡ true) × (i.0 ≡ j)).
    let z : one_if (i.0 == j) ≡ 1 = ap one_if e.0 in
    let x : count query (list_at (set ls i.0 (query ∷ list_at ls i.0)) j) ≡ suc (count query (list_at ls j)) = subst (λ n. count query (list_at (set ls i.0 (query ∷ list_at ls i.0)) n) ≡ suc (count query (list_at ls n))) e.1 (ap (λ l. count query l) (list_here ls i.0 (query ∷ list_at ls i.0) less) ∙ count_same query (list_at ls i.0)) in
    omega (arith, z, x))
    (λ (e : ((i.0 == j) ≡ false) × (i.0 ≢ j)).
    let z : one_if (i.0 == j) ≡ 0 = ap one_if e.0 in
    let x : count query (list_at (set ls i.0 (query ∷ list_at ls i.0)) j) ≡ count query (list_at ls j) = ap (λ l. count query l) (list_other ls i.0 j (query ∷ list_at ls i.0) (λ f. e.1 (sym f))) in
    omega (arith, z, x))
    (eqb_tells i.0 j)

has_put : (query : ℕ) (i : InstId) (ls : List (List ℕ)) (os : List (Option InstId)) → HasLists ls os → HasLists (set ls i.0 (query ∷ list_at ls i.0)) os
has_put query i ls os has = has_same ls (set ls i.0 (query ∷ list_at ls i.0)) os (sym (length-set ls i.0 (query ∷ list_at ls i.0))) has

listed_other : (query k : ℕ) (os : List (Option InstId)) (ls : List (List ℕ)) (j : ℕ) → k ≢ query → HasLists ls os → count k (list_at (listed query os ls) j) ≡ count k (list_at ls j)
listed_other query k [] ls j apart has = refl
listed_other query k (None ∷ os) ls j apart has = listed_other query k os ls j apart has
listed_other query k (Some i ∷ os) ls j apart has = listed_other query k os (set ls i.0 (query ∷ list_at ls i.0)) j apart (has_put query i ls os has.1) ∙ put_other query k i j ls apart has.0

listed_total_other : (query k : ℕ) (os : List (Option InstId)) (ls : List (List ℕ)) → k ≢ query → HasLists ls os → total k (listed query os ls) ≡ total k ls
listed_total_other query k [] ls apart has = refl
listed_total_other query k (None ∷ os) ls apart has = listed_total_other query k os ls apart has
listed_total_other query k (Some i ∷ os) ls apart has =
    listed_total_other query k os (set ls i.0 (query ∷ list_at ls i.0)) apart (has_put query i ls os has.1)
    ∙ (let t : total k (set ls i.0 (query ∷ list_at ls i.0)) + count k (list_at ls i.0) ≡ total k ls + count k (query ∷ list_at ls i.0) = total_set k ls i.0 (query ∷ list_at ls i.0) has.0 in let c : count k (query ∷ list_at ls i.0) ≡ count k (list_at ls i.0) = count_apart k query (list_at ls i.0) (λ f. apart (sym f)) in omega (arith, t, c))

-- how many of them are there
some_count : List (Option InstId) → ℕ
some_count [] = 0
some_count (None ∷ os) = some_count os
some_count (Some i ∷ os) = suc (some_count os)

listed_total : (query : ℕ) (os : List (Option InstId)) (ls : List (List ℕ)) → HasLists ls os → total query (listed query os ls) ≡ total query ls + some_count os
unfolding some_count
listed_total query [] ls has = omega arith
listed_total query (None ∷ os) ls has = listed_total query os ls has
listed_total query (Some i ∷ os) ls has =
    let r : total query (listed query os (set ls i.0 (query ∷ list_at ls i.0))) ≡ total query (set ls i.0 (query ∷ list_at ls i.0)) + some_count os = listed_total query os (set ls i.0 (query ∷ list_at ls i.0)) (has_put query i ls os has.1) in
    let t : total query (set ls i.0 (query ∷ list_at ls i.0)) + count query (list_at ls i.0) ≡ total query ls + count query (query ∷ list_at ls i.0) = total_set query ls i.0 (query ∷ list_at ls i.0) has.0 in
    let c : count query (query ∷ list_at ls i.0) ≡ suc (count query (list_at ls i.0)) = count_same query (list_at ls i.0) in
    omega (arith, r, t, c)

listed_more : (query : ℕ) (os : List (Option InstId)) (ls : List (List ℕ)) (j : ℕ) → HasLists ls os → count query (list_at ls j) ≤ count query (list_at (listed query os ls) j)
listed_more query [] ls j has = omega arith
listed_more query (None ∷ os) ls j has = listed_more query os ls j has
listed_more query (Some i ∷ os) ls j has =
    let r : count query (list_at (set ls i.0 (query ∷ list_at ls i.0)) j) ≤ count query (list_at (listed query os (set ls i.0 (query ∷ list_at ls i.0))) j) = listed_more query os (set ls i.0 (query ∷ list_at ls i.0)) j (has_put query i ls os has.1) in
    let h = put_here query i j ls has.0 in omega (arith, r, h)

listed_in : (query : ℕ) (os : List (Option InstId)) (ls : List (List ℕ)) (j : ℕ) → HasLists ls os → is_matched j os ≡ true → 0 < count query (list_at (listed query os ls) j)
listed_in query [] ls j has m = absurd cc
listed_in query (None ∷ os) ls j has m = listed_in query os ls j has m
listed_in query (Some i ∷ os) ls j has m =
    ⊎_elim (λ (e : (i.0 == j) ≡ true).
    let r : count query (list_at (set ls i.0 (query ∷ list_at ls i.0)) j) ≤ count query (list_at (listed query os (set ls i.0 (query ∷ list_at ls i.0))) j) = listed_more query os (set ls i.0 (query ∷ list_at ls i.0)) j (has_put query i ls os has.1) in
    let h = put_here query i j ls has.0 in let z : one_if (i.0 == j) ≡ 1 = ap one_if e in omega (arith, r, h, z))
    (λ (e : is_matched j os ≡ true). listed_in query os (set ls i.0 (query ∷ list_at ls i.0)) j (has_put query i ls os has.1) e)
    (or_cases (i.0 == j) (is_matched j os) m)

listed_out : (query : ℕ) (os : List (Option InstId)) (ls : List (List ℕ)) (j : ℕ) → HasLists ls os → is_matched j os ≡ false → count query (list_at (listed query os ls) j) ≡ count query (list_at ls j)
listed_out query [] ls j has m = refl
listed_out query (None ∷ os) ls j has m = listed_out query os ls j has m
listed_out query (Some i ∷ os) ls j has m =
    let n = neither (i.0 == j) (is_matched j os) m in
    listed_out query os (set ls i.0 (query ∷ list_at ls i.0)) j (has_put query i ls os has.1) n.1
    ∙ (let h = put_here query i j ls has.0 in let z : one_if (i.0 == j) ≡ 0 = ap one_if n.0 in omega (arith, h, z))
  where
    neither : (a b : Bool) → (a || b) ≡ false → (a ≡ false) × (b ≡ false)
    neither true b e = absurd cc
    neither false b e = (refl, e)

listed_only : (query : ℕ) (os : List (Option InstId)) (ls : List (List ℕ)) (j : ℕ) → HasLists ls os → count query (list_at ls j) ≡ 0 → 0 < count query (list_at (listed query os ls) j) → is_matched j os ≡ true
listed_only query os ls j has none pos = step (is_matched j os) refl
  where
    step : (v : Bool) → is_matched j os ≡ v → is_matched j os ≡ true
    step true e = e
    step false e = absurd (let o = listed_out query os ls j has e in omega (arith, o, none, pos))

-- what is missing is matched, and isn't at the level
missing_matched : (s : ℕ → Stand) (level : Level) (os : List (Option InstId)) (j : ℕ) → is_matched j (map (missing_of s level) os) ≡ (is_matched j os && not (at_level s level j))
missing_matched s level [] j = refl
missing_matched s level (None ∷ os) j = missing_matched s level os j
missing_matched s level (Some i ∷ os) j = step (at_level s level i.0) (i.0 == j) refl (λ e. ap (at_level s level) (is_same i.0 j e)) (missing_matched s level os j)
  where
    is_same : (a b : ℕ) → (a == b) ≡ true → a ≡ b
    is_same a b e = ⊎_elim (λ (f : ((a == b) ≡ true) × (a ≡ b)). f.1) (λ (f : ((a == b) ≡ false) × (a ≢ b)). let g : false ≡ true = sym f.0 ∙ e in absurd cc) (eqb_tells a b)

    and_false : (b : Bool) → (b && false) ≡ false
    and_false true = refl
    and_false false = refl

    step : (t v : Bool) → (i.0 == j) ≡ v → (v ≡ true → t ≡ at_level s level j) → is_matched j (map (missing_of s level) os) ≡ (is_matched j os && not (at_level s level j)) → is_matched j (only_if (not t) i ∷ map (missing_of s level) os) ≡ ((v || is_matched j os) && not (at_level s level j))
    step true true e same ih = ih ∙ ap (λ x. is_matched j os && not x) (sym (same refl)) ∙ and_false (is_matched j os) ∙ ap not (same refl)
    step false true e same ih = ap (λ x. x || is_matched j (map (missing_of s level) os)) e ∙ ap not (same refl)
    step true false e same ih = ih
    step false false e same ih = ap (λ x. x || is_matched j (map (missing_of s level) os)) e ∙ ih

some_missing : (s : ℕ → Stand) (level : Level) (os : List (Option InstId)) → some_count (map (missing_of s level) os) ≡ length (filter_map (missing_of s level) os)
unfolding some_count
some_missing s level [] = refl
some_missing s level (o ∷ os) = step (missing_of s level o) (some_missing s level os)
  where
    step : (m : Option InstId) → some_count (map (missing_of s level) os) ≡ length (filter_map (missing_of s level) os) → some_count (m ∷ map (missing_of s level) os) ≡ length (cons_option m (filter_map (missing_of s level) os))
    step None e = e
    step (Some i) e = ap suc e

-- what the lists are after one more query
watched_count : (s : ℕ → Stand) (query : ℕ) (q : Query) (b c : Board) (l : Level) (k i : ℕ) → IsWatched s query q b c → HasLists (waiting b q.level) q.matched → k ≢ query → count k (list_at (waiting c l) i) ≡ count k (list_at (waiting b l) i)
watched_count s query q b c l k i w has apart =
    ⊎_elim (λ (e : l ≡ q.level). subst (λ v. count k (list_at (waiting c v) i) ≡ count k (list_at (waiting b v) i)) (sym e) (ap (λ ls. count k (list_at ls i)) w.here ∙ listed_other query k (map (missing_of s q.level) q.matched) (waiting b q.level) i apart (has_missing s q.level (waiting b q.level) q.matched has)))
    (λ (e : waiting c l ≡ waiting b l). ap (λ ls. count k (list_at ls i)) e) (w.other l)

watched_total : (s : ℕ → Stand) (query : ℕ) (q : Query) (b c : Board) (l : Level) (k : ℕ) → IsWatched s query q b c → HasLists (waiting b q.level) q.matched → k ≢ query → total k (waiting c l) ≡ total k (waiting b l)
watched_total s query q b c l k w has apart =
    ⊎_elim (λ (e : l ≡ q.level). subst (λ v. total k (waiting c v) ≡ total k (waiting b v)) (sym e) (ap (λ ls. total k ls) w.here ∙ listed_total_other query k (map (missing_of s q.level) q.matched) (waiting b q.level) apart (has_missing s q.level (waiting b q.level) q.matched has)))
    (λ (e : waiting c l ≡ waiting b l). ap (λ ls. total k ls) e) (w.other l)

no_query : (qs : List Query) (p : Query) → slice_get qs (length qs) ≡ Some p → ⊥
no_query qs p is = let h : length qs < length qs = slice_get_within qs (length qs) p is in omega (arith, h)

zero_or : (n : ℕ) → (0 < n → ⊥) → n ≡ 0
zero_or zero never = refl
zero_or (suc n) never = absurd (never (omega arith))

-- the board watches one more query
pub watched : (s : ℕ → Stand) (qs : List Query) (query : ℕ) (q : Query) (b c : Board) → Watches qs b → query ≡ length qs → HasLists (waiting b q.level) q.matched → HasLists b.all.lists q.matched → IsWatched s query q b c → Watches (qs ++ q ∷ []) c
watched s qs query q b c old number has hasall w = record {
  size = ap length w.marks ∙ length-append b.marks.marks _ ∙ (let e : length (qs ++ q ∷ []) ≡ length qs + 1 = length-append qs (q ∷ []) in omega (arith, e, old.size));
  heard_of = λ k i p here new m. heard_of k i p here new m (eqb_tells k query);
  own = λ k i pos. own k i pos (eqb_tells k query);
  own_waiting = λ l k i pos. own_waiting l k i pos (eqb_tells k query);
  left = λ k p here. left k p here (eqb_tells k query);
  waits = λ k less new. waits k less new (eqb_tells k query);
}
  where
    m0 : Mark
    m0 = record { left = length (missing s q); found = is_met s q }

    mark_here : slice_get c.marks.marks query ≡ Some m0
    mark_here = ap (λ ms. slice_get ms query) w.marks ∙ ap (λ n. slice_get (b.marks.marks ++ m0 ∷ []) n) (number ∙ sym old.size) ∙ pushed_last b.marks.marks m0

    mark_other : (k : ℕ) → k ≢ query → slice_get c.marks.marks k ≡ slice_get b.marks.marks k
    mark_other k apart = ap (λ ms. slice_get ms k) w.marks ∙ get_push b.marks.marks m0 k (λ e. apart (sym e ∙ old.size ∙ sym number))

    query_other : (k : ℕ) (p : Query) → k ≢ query → slice_get (qs ++ q ∷ []) k ≡ Some p → slice_get qs k ≡ Some p
    query_other k p apart here = sym (get_push qs q k (λ e. apart (sym e ∙ sym number))) ∙ here

    query_here : (k : ℕ) (p : Query) → k ≡ query → slice_get (qs ++ q ∷ []) k ≡ Some p → p ≡ q
    query_here k p e here = let x : Some p ≡ Some q = sym here ∙ ap (λ n. slice_get (qs ++ q ∷ []) n) (e ∙ number) ∙ pushed_last qs q in cc

    queried : slice_get (qs ++ q ∷ []) query ≡ Some q
    queried = ap (λ n. slice_get (qs ++ q ∷ []) n) number ∙ pushed_last qs q

    more : (k : ℕ) (p : Query) → slice_get qs k ≡ Some p → slice_get (qs ++ q ∷ []) k ≡ Some p
    more k p here = appended_below qs (q ∷ []) k (slice_get_within qs k p here) ∙ here

    no_old : (p : Query) → slice_get qs query ≡ Some p → ⊥
    no_old p is = no_query qs p (subst (λ n. slice_get qs n ≡ Some p) number is)

    none_all : (i : ℕ) → count query (list_at b.all.lists i) ≡ 0
    none_all i = zero_or (count query (list_at b.all.lists i)) (λ pos. let o = old.own query i pos in no_old o.0 o.1)

    none_waiting : (l : Level) (i : ℕ) → count query (list_at (waiting b l) i) ≡ 0
    none_waiting l i = zero_or (count query (list_at (waiting b l) i)) (λ pos. let o = old.own_waiting l query i pos in no_old o.0 o.1)

    heard_of : (k i : ℕ) (p : Query) → slice_get (qs ++ q ∷ []) k ≡ Some p → found_at c.marks.marks k ≡ false → is_matched i p.matched ≡ true → (((k == query) ≡ true) × (k ≡ query)) ⊎ (((k == query) ≡ false) × (k ≢ query)) → 0 < count k (list_at c.all.lists i)
    heard_of k i p here new m (inl e) =
        let r : 0 < count query (list_at (listed query q.matched b.all.lists) i) = listed_in query q.matched b.all.lists i hasall (subst (λ (x : Query). is_matched i x.matched ≡ true) (query_here k p e.1 here) m) in
        subst (λ n. 0 < count n (list_at c.all.lists i)) (sym e.1) (subst (λ ls. 0 < count query (list_at ls i)) (sym w.all) r)
    heard_of k i p here new m (inr e) =
        let r : 0 < count k (list_at b.all.lists i) = old.heard_of k i p (query_other k p e.1 here) (sym (ap (λ (o : Option Mark). option_map_or (λ m. m.found) o false) (mark_other k e.1)) ∙ new) m in
        let x : count k (list_at c.all.lists i) ≡ count k (list_at b.all.lists i) = ap (λ ls. count k (list_at ls i)) w.all ∙ listed_other query k q.matched b.all.lists i e.1 hasall in
        omega (arith, r, x)

    own : (k i : ℕ) → 0 < count k (list_at c.all.lists i) → (((k == query) ≡ true) × (k ≡ query)) ⊎ (((k == query) ≡ false) × (k ≢ query)) → (p : Query) × (slice_get (qs ++ q ∷ []) k ≡ Some p) × (is_matched i p.matched ≡ true)
    own k i pos (inl e) = (q, ap (λ n. slice_get (qs ++ q ∷ []) n) e.1 ∙ queried, listed_only query q.matched b.all.lists i hasall (none_all i) (subst (λ ls. 0 < count query (list_at ls i)) w.all (subst (λ n. 0 < count n (list_at c.all.lists i)) e.1 pos)))
    own k i pos (inr e) =
        let x : count k (list_at c.all.lists i) ≡ count k (list_at b.all.lists i) = ap (λ ls. count k (list_at ls i)) w.all ∙ listed_other query k q.matched b.all.lists i e.1 hasall in
        let o = old.own k i (omega (arith, pos, x)) in (o.0, more k o.0 o.1, o.2)

    first_of : (l : Level) (i : ℕ) → 0 < count query (list_at (waiting c l) i) → (l ≡ q.level) ⊎ (waiting c l ≡ waiting b l) → (q.level ≡ l) × (is_matched i q.matched ≡ true)
    first_of l i pos (inl e) =
        let p : 0 < count query (list_at (listed query (map (missing_of s q.level) q.matched) (waiting b q.level)) i) = subst (λ ls. 0 < count query (list_at ls i)) w.here (subst (λ v. 0 < count query (list_at (waiting c v) i)) e pos) in
        let m : is_matched i (map (missing_of s q.level) q.matched) ≡ true = listed_only query (map (missing_of s q.level) q.matched) (waiting b q.level) i (has_missing s q.level (waiting b q.level) q.matched has) (none_waiting q.level i) p in
        (sym e, (both (is_matched i q.matched) (not (at_level s q.level i)) (sym (missing_matched s q.level q.matched i) ∙ m)).0)
      where
        both : (a b : Bool) → (a && b) ≡ true → (a ≡ true) × (b ≡ true)
        both true b e = (refl, e)
        both false b e = absurd cc
    first_of l i pos (inr e) = absurd (let z = none_waiting l i in let x : count query (list_at (waiting c l) i) ≡ count query (list_at (waiting b l) i) = ap (λ ls. count query (list_at ls i)) e in omega (arith, z, x, pos))

    own_waiting : (l : Level) (k i : ℕ) → 0 < count k (list_at (waiting c l) i) → (((k == query) ≡ true) × (k ≡ query)) ⊎ (((k == query) ≡ false) × (k ≢ query)) → (p : Query) × (slice_get (qs ++ q ∷ []) k ≡ Some p) × (p.level ≡ l) × (is_matched i p.matched ≡ true)
    own_waiting l k i pos (inl e) = let f = first_of l i (subst (λ n. 0 < count n (list_at (waiting c l) i)) e.1 pos) (w.other l) in (q, ap (λ n. slice_get (qs ++ q ∷ []) n) e.1 ∙ queried, f.0, f.1)
    own_waiting l k i pos (inr e) =
        let x = watched_count s query q b c l k i w has e.1 in
        let o = old.own_waiting l k i (omega (arith, pos, x)) in (o.0, more k o.0 o.1, o.2, o.3)

    left : (k : ℕ) (p : Query) → slice_get (qs ++ q ∷ []) k ≡ Some p → (((k == query) ≡ true) × (k ≡ query)) ⊎ (((k == query) ≡ false) × (k ≢ query)) → left_at c.marks.marks k ≡ total k (waiting c p.level)
    left k p here (inl e) =
        let a : left_at c.marks.marks query ≡ length (missing s q) = left_read c.marks.marks query m0 mark_here in
        let z : total query (waiting b q.level) ≡ 0 = total_none query (waiting b q.level) (none_waiting q.level) in
        let t : total query (waiting c q.level) ≡ total query (waiting b q.level) + some_count (map (missing_of s q.level) q.matched) = ap (λ ls. total query ls) w.here ∙ listed_total query (map (missing_of s q.level) q.matched) (waiting b q.level) (has_missing s q.level (waiting b q.level) q.matched has) in
        let n : some_count (map (missing_of s q.level) q.matched) ≡ length (missing s q) = some_missing s q.level q.matched in
        let r : left_at c.marks.marks query ≡ total query (waiting c q.level) = omega (arith, a, z, t, n) in
        ap (λ n. left_at c.marks.marks n) e.1 ∙ r ∙ sym (ap (λ n. total n (waiting c q.level)) e.1) ∙ sym (ap (λ (x : Query). total k (waiting c x.level)) (query_here k p e.1 here))
    left k p here (inr e) =
        ap (λ (o : Option Mark). option_map_or (λ m. m.left) o 0) (mark_other k e.1) ∙ old.left k p (query_other k p e.1 here) ∙ sym (watched_total s query q b c p.level k w has e.1)

    waits : (k : ℕ) → k < length (qs ++ q ∷ []) → found_at c.marks.marks k ≡ false → (((k == query) ≡ true) × (k ≡ query)) ⊎ (((k == query) ≡ false) × (k ≢ query)) → 0 < left_at c.marks.marks k
    waits k less new (inl e) =
        let f : is_met s q ≡ false = sym (found_read c.marks.marks query m0 mark_here) ∙ sym (ap (λ n. found_at c.marks.marks n) e.1) ∙ new in
        let a : left_at c.marks.marks query ≡ length (missing s q) = left_read c.marks.marks query m0 mark_here in
        subst (λ n. 0 < left_at c.marks.marks n) (sym e.1) (positive (length (missing s q)) (none_missing s q.level q.matched) (neither (all_at s q.level q.matched) (is_some (first_lost s q.matched)) f) a)
      where
        neither : (a b : Bool) → (a || b) ≡ false → a ≡ false
        neither true b e = absurd cc
        neither false b e = refl

        positive : (n : ℕ) → (n == 0) ≡ all_at s q.level q.matched → all_at s q.level q.matched ≡ false → left_at c.marks.marks query ≡ n → 0 < left_at c.marks.marks query
        positive zero t f a = absurd (let g : true ≡ false = t ∙ f in cc)
        positive (suc n) t f a = omega (arith, a)
    waits k less new (inr e) =
        let l : k < length qs = let n : length (qs ++ q ∷ []) ≡ length qs + 1 = length-append qs (q ∷ []) in omega (arith, less, n, e.1, number) in
        let x : left_at c.marks.marks k ≡ left_at b.marks.marks k = ap (λ (o : Option Mark). option_map_or (λ m. m.left) o 0) (mark_other k e.1) in
        let r : 0 < left_at b.marks.marks k = old.waits k l (sym (ap (λ (o : Option Mark). option_map_or (λ m. m.found) o false) (mark_other k e.1)) ∙ new) in
        omega (arith, x, r)

-- what a query waits for is the same where the lists are
waited_same : (A B : List (List ℕ)) (k : ℕ) (os : List (Option InstId)) → ((i : ℕ) → count k (list_at A i) ≡ count k (list_at B i)) → filter_map (waited A k) os ≡ filter_map (waited B k) os
waited_same A B k [] same = refl
waited_same A B k (None ∷ os) same = waited_same A B k os same
waited_same A B k (Some i ∷ os) same = ap (λ n. cons_option (only_if (nat_lt 0 n) i) (filter_map (waited A k) os)) (same i.0) ∙ ap (λ l. cons_option (only_if (nat_lt 0 (count k (list_at B i.0))) i) l) (waited_same A B k os same)

-- the queries before some number are seen as they were
waits_same : (n : ℕ) (b c : Board) (qs : List Query) → ((k i : ℕ) (l : Level) → k < n + length qs → count k (list_at (waiting c l) i) ≡ count k (list_at (waiting b l) i)) → ((k : ℕ) → k < n + length qs → found_at c.marks.marks k ≡ found_at b.marks.marks k) → waits_from n c qs ≡ waits_from n b qs
waits_same n b c [] counts founds = refl
waits_same n b c (q ∷ qs) counts founds =
    ap (λ f. cond f [] (filter_map (waited (waiting c q.level) n) q.matched) ∷ waits_from (suc n) c qs) (founds n (omega arith))
    ∙ ap (λ l. cond (found_at b.marks.marks n) [] l ∷ waits_from (suc n) c qs) (waited_same (waiting c q.level) (waiting b q.level) n q.matched (λ i. counts n i q.level (omega arith)))
    ∙ ap (λ l. cond (found_at b.marks.marks n) [] (filter_map (waited (waiting b q.level) n) q.matched) ∷ l) (waits_same (suc n) b c qs (λ k i l less. counts k i l (omega (arith, less))) (λ k less. founds k (omega (arith, less))))

waits_push : (n : ℕ) (b : Board) (qs : List Query) (q : Query) (m : ℕ) → m ≡ n + length qs → waits_from n b (qs ++ q ∷ []) ≡ waits_from n b qs ++ cond (found_at b.marks.marks m) [] (filter_map (waited (waiting b q.level) m) q.matched) ∷ []
waits_push n b [] q m e = let f : n ≡ m = omega (arith, e) in ap (λ x. cond (found_at b.marks.marks x) [] (filter_map (waited (waiting b q.level) x) q.matched) ∷ []) f
waits_push n b (p ∷ qs) q m e = ap (λ l. cond (found_at b.marks.marks n) [] (filter_map (waited (waiting b p.level) n) p.matched) ∷ l) (waits_push (suc n) b qs q m (omega (arith, e)))

-- room alone changes nothing that is seen
pub same_waits : (b c : Board) (qs : List Query) → IsSame b c → waits_from 0 c qs ≡ waits_from 0 b qs
same_waits b c qs e = waits_same 0 b c qs (λ k i l less. ap (λ xs. count k xs) (e.lists l i)) (λ k less. ap (λ ms. found_at ms k) e.marks)

new_waits : (s : ℕ → Stand) (qs : List Query) (query : ℕ) (q : Query) (b c : Board) → Watches qs b → query ≡ length qs → HasLists (waiting b q.level) q.matched → IsWatched s query q b c → filter_map (waited (waiting c q.level) query) q.matched ≡ missing s q
new_waits s qs query q b c old number has w = filter_same s q.level (waiting c q.level) query q.matched (λ i m. bool_same (nat_lt 0 (count query (list_at (waiting c q.level) i))) (not (at_level s q.level i)) (λ p. out i m p) (λ n. in_it i m n))
  where
    none : (i : ℕ) → count query (list_at (waiting b q.level) i) ≡ 0
    none i = zero_or (count query (list_at (waiting b q.level) i)) (λ pos. let o = old.own_waiting q.level query i pos in no_query qs o.0 (subst (λ n. slice_get qs n ≡ Some o.0) number o.1))

    hasm : HasLists (waiting b q.level) (map (missing_of s q.level) q.matched)
    hasm = has_missing s q.level (waiting b q.level) q.matched has

    out : (i : ℕ) → is_matched i q.matched ≡ true → nat_lt 0 (count query (list_at (waiting c q.level) i)) ≡ true → not (at_level s q.level i) ≡ true
    out i m p =
        let pos : 0 < count query (list_at (listed query (map (missing_of s q.level) q.matched) (waiting b q.level)) i) = subst (λ ls. 0 < count query (list_at ls i)) w.here (is_positive (count query (list_at (waiting c q.level) i)) p) in
        (and_parts (is_matched i q.matched) (not (at_level s q.level i)) (sym (missing_matched s q.level q.matched i) ∙ listed_only query (map (missing_of s q.level) q.matched) (waiting b q.level) i hasm (none i) pos)).1

    in_it : (i : ℕ) → is_matched i q.matched ≡ true → not (at_level s q.level i) ≡ true → nat_lt 0 (count query (list_at (waiting c q.level) i)) ≡ true
    in_it i m n =
        let e : is_matched i (map (missing_of s q.level) q.matched) ≡ true = missing_matched s q.level q.matched i ∙ ap (λ x. x && not (at_level s q.level i)) m ∙ n in
        positive (count query (list_at (waiting c q.level) i)) (subst (λ ls. 0 < count query (list_at ls i)) (sym w.here) (listed_in query (map (missing_of s q.level) q.matched) (waiting b q.level) i hasm e))

-- a query was lodged
pub record IsLodging {N : Type 0} (s : ℕ → Stand) (query : ℕ) (q : Query) (o : Option (Unheard N)) (a a' : Account N) (b r c : Board) : Type 0 where
  pub kept : IsKept a b
  pub number : query ≡ length a.queries
  pub rows : a' ≡ with_query a q o
  pub same : IsSame b r
  pub room : HasRoom q.matched r
  pub watched : IsWatched s query q r c

has_level : (r : Board) (q : Query) (l : Level) → HasRoom q.matched r → HasLists (waiting r l) q.matched
has_level r q Resolved h = h.resolved
has_level r q Ready h = h.ready

ended_push : (ends : List (Option QueryEnd)) (k : ℕ) → ended_at (ends ++ None ∷ []) k ≡ ended_at ends k
ended_push [] zero = refl
ended_push [] (suc k) = refl
ended_push (e ∷ ends) zero = refl
ended_push (e ∷ ends) (suc k) = ended_push ends k

found_more : (marks : List Mark) (m : Mark) (k : ℕ) → one_if (found_at (marks ++ m ∷ []) k) ≡ one_if (found_at marks k) + one_if (length marks == k && m.found)
found_more marks m k = ap one_if (found_push marks m k) ∙ ⊎_elim (λ (e : ((length marks == k) ≡ true) × (length marks ≡ k)).
    let f : found_at marks k ≡ false = found_past marks k (omega (arith, e.1)) in
    ap (λ x. one_if (x || (length marks == k && m.found))) f ∙ sym (ap (λ x. one_if x + one_if (length marks == k && m.found)) f ∙ (omega arith)))
    (λ (e : ((length marks == k) ≡ false) × (length marks ≢ k)).
    ap (λ x. one_if (found_at marks k || (x && m.found))) e.0 ∙ or_nothing (found_at marks k) ∙ sym (ap (λ x. one_if (found_at marks k) + one_if (x && m.found)) e.0 ∙ (omega arith)))
    (eqb_tells (length marks) k)
  where
    or_nothing : (b : Bool) → one_if (b || false) ≡ one_if b
    or_nothing true = refl
    or_nothing false = refl

pub lodging_kept : {N : Type 0} (s : ℕ → Stand) (query : ℕ) (q : Query) (o : Option (Unheard N)) (a a' : Account N) (b r c : Board) → IsLodging s query q o a a' b r c → IsKept a' c
lodging_kept {N} s query q o a a' b r c l = subst (λ (x : Account N). IsKept x c) (sym l.rows) (record {
  ends = length-append a.ends (None ∷ []) ∙ (let e : length (a.queries ++ q ∷ []) ≡ length a.queries + 1 = length-append a.queries (q ∷ []) in omega (arith, e, l.kept.ends));
  armed = length-append a.armed (o ∷ []) ∙ (let e : length (a.queries ++ q ∷ []) ≡ length a.queries + 1 = length-append a.queries (q ∷ []) in omega (arith, e, l.kept.armed));
  watches = watched s a.queries query q r c (same_watches a.queries b r l.kept.watches l.same) l.number (has_level r q q.level l.room) l.room.all l.watched;
  met = λ k. met k (is_met s q) refl;
})
  where
    size : length r.marks.marks ≡ query
    size = ap length l.same.marks ∙ l.kept.watches.size ∙ sym l.number

    listed_met : (k : ℕ) (v : Bool) → is_met s q ≡ v → count k c.marks.met ≡ count k b.marks.met + one_if (length r.marks.marks == k && is_met s q)
    listed_met k true e =
        let x : count k c.marks.met ≡ count k b.marks.met + one_if (query == k) = ap (λ m. count k m) (l.watched.met ∙ ap (λ v. cond v (r.marks.met ++ query ∷ []) r.marks.met) e) ∙ count-push k r.marks.met query ∙ ap (λ m. count k m + one_if (query == k)) l.same.met in
        let y : one_if (length r.marks.marks == k && is_met s q) ≡ one_if (query == k) = ap (λ n. one_if (n == k && is_met s q)) size ∙ ap (λ v. one_if (query == k && v)) e ∙ and_yes (query == k) in
        omega (arith, x, y)
      where
        and_yes : (b : Bool) → one_if (b && true) ≡ one_if b
        and_yes true = refl
        and_yes false = refl
    listed_met k false e =
        let x : count k c.marks.met ≡ count k b.marks.met = ap (λ m. count k m) (l.watched.met ∙ ap (λ v. cond v (r.marks.met ++ query ∷ []) r.marks.met) e ∙ l.same.met) in
        let y : one_if (length r.marks.marks == k && is_met s q) ≡ 0 = ap (λ v. one_if (length r.marks.marks == k && v)) e ∙ and_no (length r.marks.marks == k) in
        omega (arith, x, y)
      where
        and_no : (b : Bool) → one_if (b && false) ≡ 0
        and_no true = refl
        and_no false = refl

    met : (k : ℕ) (v : Bool) → is_met s q ≡ v → count k c.marks.met + ended_at (a.ends ++ None ∷ []) k ≡ one_if (found_at c.marks.marks k)
    met k v e =
        let f : one_if (found_at c.marks.marks k) ≡ one_if (found_at b.marks.marks k) + one_if (length r.marks.marks == k && is_met s q) =
        ap (λ ms. one_if (found_at ms k)) l.watched.marks ∙ found_more r.marks.marks (record { left = length (missing s q); found = is_met s q }) k ∙ ap (λ ms. one_if (found_at ms k) + one_if (length r.marks.marks == k && is_met s q)) l.same.marks in
        omega (arith, f, listed_met k v e, ended_push a.ends k, l.kept.met k)

pub lodging_seen : {N : Type 0} (s : ℕ → Stand) (query : ℕ) (q : Query) (o : Option (Unheard N)) (a a' : Account N) (b r c : Board) → IsLodging s query q o a a' b r c → ledger a' c ≡ lodged s q o (ledger a b)
lodging_seen {N} s query q o a a' b r c l =
    ap (λ (x : Account N). ledger x c) l.rows
    ∙ ap (λ d. record { queries = a.queries ++ q ∷ []; ends = a.ends ++ None ∷ []; armed = a.armed ++ o ∷ []; decided = d; waits = waits_from 0 c (a.queries ++ q ∷ []); due = a.due }) decided
    ∙ ap (λ w. record { queries = a.queries ++ q ∷ []; ends = a.ends ++ None ∷ []; armed = a.armed ++ o ∷ []; decided = map (λ m. m.found) b.marks.marks ++ is_met s q ∷ []; waits = w; due = a.due }) waits
  where
    old : Watches a.queries r
    old = same_watches a.queries b r l.kept.watches l.same

    has : HasLists (waiting r q.level) q.matched
    has = has_level r q q.level l.room

    decided : map (λ m. m.found) c.marks.marks ≡ map (λ m. m.found) b.marks.marks ++ is_met s q ∷ []
    decided = ap (λ ms. map (λ m. m.found) ms) l.watched.marks ∙ map-append (λ m. m.found) r.marks.marks (record { left = length (missing s q); found = is_met s q } ∷ []) ∙ ap (λ ms. map (λ m. m.found) ms ++ is_met s q ∷ []) l.same.marks

    size : length r.marks.marks ≡ length a.queries
    size = ap length l.same.marks ∙ l.kept.watches.size

    before : waits_from 0 c a.queries ≡ waits_from 0 r a.queries
    before = waits_same 0 r c a.queries (λ k i v less. watched_count s query q r c v k i l.watched has (λ e. omega (arith, less, e, l.number)))
        (λ k less. ap (λ ms. found_at ms k) l.watched.marks ∙ ap (λ (x : Option Mark). option_map_or (λ m. m.found) x false) (appended_below r.marks.marks (record { left = length (missing s q); found = is_met s q } ∷ []) k (omega (arith, less, size))))

    found : found_at c.marks.marks query ≡ is_met s q
    found = ap (λ ms. found_at ms query) l.watched.marks ∙ found_read (r.marks.marks ++ record { left = length (missing s q); found = is_met s q } ∷ []) query (record { left = length (missing s q); found = is_met s q }) (ap (λ n. slice_get (r.marks.marks ++ record { left = length (missing s q); found = is_met s q } ∷ []) n) (l.number ∙ sym size) ∙ pushed_last r.marks.marks (record { left = length (missing s q); found = is_met s q }))

    waits : waits_from 0 c (a.queries ++ q ∷ []) ≡ waits_from 0 b a.queries ++ waits_of s q ∷ []
    waits = waits_push 0 c a.queries q query (let n = l.number in omega (arith, n))
        ∙ ap (λ x. x ++ cond (found_at c.marks.marks query) [] (filter_map (waited (waiting c q.level) query) q.matched) ∷ []) (before ∙ same_waits b r a.queries l.same)
        ∙ ap (λ f. waits_from 0 b a.queries ++ cond f [] (filter_map (waited (waiting c q.level) query) q.matched) ∷ []) found
        ∙ ap (λ x. waits_from 0 b a.queries ++ cond (is_met s q) [] x ∷ []) (new_waits s a.queries query q r c old l.number has l.watched)

length_waits : (n : ℕ) (b : Board) (qs : List Query) → length (waits_from n b qs) ≡ length qs
length_waits n b [] = refl
length_waits n b (q ∷ qs) = ap suc (length_waits (suc n) b qs)

-- one more query than before, and something is known of each
push_known : {X : Type 0} (f : Query → X) (qs : List Query) (ends : List (Option QueryEnd)) (xs : List X) (q p : Query) (k : ℕ) → length ends ≡ length qs → length xs ≡ length qs →
    ((j : ℕ) (r : Query) → slice_get qs j ≡ Some r → slice_get ends j ≡ Some None → slice_get xs j ≡ Some (f r)) → slice_get (qs ++ q ∷ []) k ≡ Some p → slice_get (ends ++ None ∷ []) k ≡ Some None → slice_get (xs ++ f q ∷ []) k ≡ Some (f p)
push_known f qs ends xs q p k same_ends same known here unended =
    ⊎_elim (λ (e : ((length qs == k) ≡ true) × (length qs ≡ k)).
    let new : slice_get (qs ++ q ∷ []) k ≡ Some q = subst (λ j. slice_get (qs ++ q ∷ []) j ≡ Some q) e.1 (pushed_last qs q) in
    let one : Some q ≡ Some p = sym new ∙ here in let is : q ≡ p = cc in
    subst (λ j. slice_get (xs ++ f q ∷ []) j ≡ Some (f q)) (same ∙ e.1) (pushed_last xs (f q)) ∙ ap (λ r. Some (f r)) is)
    (λ (e : ((length qs == k) ≡ false) × (length qs ≢ k)).
    get_push xs (f q) k (λ x. e.1 (sym same ∙ x)) ∙ known k p (sym (get_push qs q k e.1) ∙ here) (sym (get_push ends None k (λ x. e.1 (sym same_ends ∙ x))) ∙ unended))
    (eqb_tells (length qs) k)

-- a query that is lodged leaves the book current
pub lodged_current : {N : Type 0} (s : ℕ → Stand) (q : Query) (o : Option (Unheard N)) (a : Account N) (b : Board) → IsKept a b → IsCurrent s (ledger a b) → IsCurrent s (lodged s q o (ledger a b))
lodged_current s q o a b kept c = record {
  decided = λ k p here unended. push_known (is_met s) a.queries a.ends (map (λ m. m.found) b.marks.marks) q p k kept.ends (length-map b.marks.marks (λ m. m.found) ∙ kept.watches.size) c.decided here unended;
  waits = λ k p here unended. push_known (waits_of s) a.queries a.ends (waits_from 0 b a.queries) q p k kept.ends (length_waits 0 b a.queries) c.waits here unended;
}

-- room alone changes nothing that is kept or seen
pub same_kept : {N : Type 0} (a : Account N) (b c : Board) → IsKept a b → IsSame b c → IsKept a c
same_kept a b c k e = record {
  ends = k.ends;
  armed = k.armed;
  watches = same_watches a.queries b c k.watches e;
  met = λ j. ap (λ l. count j l + ended_at a.ends j) e.met ∙ k.met j ∙ sym (ap (λ ms. one_if (found_at ms j)) e.marks);
}

pub same_seen : {N : Type 0} (a : Account N) (b c : Board) → IsSame b c → ledger a c ≡ ledger a b
same_seen a b c e =
    ap (λ ms. record { queries = a.queries; ends = a.ends; armed = a.armed; decided = map (λ m. m.found) ms; waits = waits_from 0 c a.queries; due = a.due }) e.marks
    ∙ ap (λ w. record { queries = a.queries; ends = a.ends; armed = a.armed; decided = map (λ m. m.found) b.marks.marks; waits = w; due = a.due }) (same_waits b c a.queries e)

pub if_err : {T E P : Type 0} (r : Result T E) → P → OnErr r P
if_err (Ok x) p = tt
if_err (Err e) p = p

-- the query that was added last
pub the_new : {N : Type 0} (a a' : Account N) (q p : Query) (o : Option (Unheard N)) (k : ℕ) → a' ≡ with_query a q o → k ≡ length a.queries → slice_get a'.queries k ≡ Some p → p ≡ q
the_new {N} a a' q p o k rows number here =
    let e : Some p ≡ Some q = sym here ∙ ap (λ (x : Account N). slice_get x.queries k) rows ∙ ap (λ n. slice_get (a.queries ++ q ∷ []) n) number ∙ pushed_last a.queries q in cc

pub kept_first : {N : Type 0} (a a' : Account N) (b : Board) → IsKept a b → a' ≡ record { queries = a.queries; ends = a.ends; armed = without_first a.armed; due = a.due } → IsKept a' b
kept_first {N} a a' b k e = subst (λ (x : Account N). IsKept x b) (sym e) (record { ends = k.ends; armed = length_first a.armed ∙ k.armed; watches = k.watches; met = k.met })
