-- Which queries are found to be met once the queries of the changed instances were told.
use Rattle.std.proofs.Common.{◌≡◌, ◌≢◌, ◌⊎◌, inl, ⊎_elim, ℕ, Bool, true, false, Option, Some, None, ◌+◌, ◌<◌, ◌≤◌, List, [], ◌∷◌, length, map, zero, suc, refl, ap, sym, ◌∙◌, cond, subst, arith}
use Rattle.std.specs.Prelude.{◌==◌, ◌||◌, ◌&&◌, not, nat_lt, nat_le, is_some, slice_get}
use Rattle.std.specs.List.{filter_map, cons_option}
use Rattle.std.proofs.lemmas.Bool.Decides.{eqb_tells, leb_tells}
use Rattle.std.proofs.lemmas.Option.{slice_get_within}
use Rattle.std.proofs.lemmas.Bool.{and_parts, or_right, or_cases}
use Rattle.list_laws.proofs.Bools.{bool_same}
use Rattle.orc_ids.specs.declared.ids.InstId.{InstId}
use Rattle.orc_ids.specs.declared.lookup.Level.{Level}
use Rattle.session_model.specs.Lists.{or_else, only_if}
use Rattle.session_model.specs.Query.{Stand}
use Rattle.session_model.specs.declared.rows.Query.{Query}
use Rattle.query_book.specs.declared.board.Board.{Board}
use Rattle.query_book.specs.declared.marks.Mark.{Mark}
use Rattle.query_book.specs.Stands.{at_level, is_lost, all_at, first_lost, is_met, is_matched, is_among, missing, missing_of}
use Rattle.query_book.specs.Counts.{count, total, list_at}
use Rattle.query_book.specs.Marks.{left_at, found_at}
use Rattle.query_book.specs.Board.{waiting, AreHeard}
use Rattle.query_book.specs.Rows.{Account}
use Rattle.query_book.specs.Ledger.{IsTold, IsToldOf}
use Rattle.query_book.specs.Kept.{waited, waits_from, ledger, IsKept}
use Rattle.query_book.proofs.Parts.{total_none, total_least}

pub positive : (n : ℕ) → 0 < n → nat_lt 0 n ≡ true
positive zero pos = absurd (omega (arith, pos))
positive (suc n) pos = ⊎_elim (λ (e : (nat_le 1 (suc n) ≡ true) × (1 ≤ suc n)). e.0) (λ (e : (nat_le 1 (suc n) ≡ false) × (suc n < 1)). absurd (omega (arith, e.1))) (leb_tells 1 (suc n))

pub is_positive : (n : ℕ) → nat_lt 0 n ≡ true → 0 < n
is_positive n e = ⊎_elim (λ (f : (nat_le 1 n ≡ true) × (1 ≤ n)). f.1) (λ (f : (nat_le 1 n ≡ false) × (n < 1)). let g : false ≡ true = sym f.0 ∙ e in absurd cc) (leb_tells 1 n)

pub is_same : (a b : ℕ) → (a == b) ≡ true → a ≡ b
is_same a b e = ⊎_elim (λ (f : ((a == b) ≡ true) × (a ≡ b)). f.1) (λ (f : ((a == b) ≡ false) × (a ≢ b)). let g : false ≡ true = sym f.0 ∙ e in absurd cc) (eqb_tells a b)

pub itself : (n : ℕ) (rest : Bool) → ((n == n) || rest) ≡ true
itself n rest = ⊎_elim (λ (e : ((n == n) ≡ true) × (n ≡ n)). ap (λ b. b || rest) e.0) (λ (e : ((n == n) ≡ false) × (n ≢ n)). absurd (e.1 refl)) (eqb_tells n n)

and_false : (b : Bool) → (b && false) ≡ false
and_false true = refl
and_false false = refl

pub among_step : (i : ℕ) (j : InstId) (R : List InstId) (M U t v : Bool) → (j.0 == i) ≡ v → (v ≡ true → t ≡ U) → is_among i R ≡ (M && U) → is_among i (cons_option (only_if t j) R) ≡ ((v || M) && U)
among_step i j R M U true true e same ih = ap (λ x. x || is_among i R) e ∙ same refl
among_step i j R M U false true e same ih = ih ∙ ap (λ u. M && u) (sym (same refl)) ∙ and_false M ∙ same refl
among_step i j R M U true false e same ih = ap (λ x. x || is_among i R) e ∙ ih
among_step i j R M U false false e same ih = ih

-- what a query waits for is what it matched and is listed under
pub among_waited : (lists : List (List ℕ)) (k i : ℕ) (matched : List (Option InstId)) → is_among i (filter_map (waited lists k) matched) ≡ (is_matched i matched && nat_lt 0 (count k (list_at lists i)))
among_waited lists k i [] = refl
among_waited lists k i (None ∷ matched) = among_waited lists k i matched
among_waited lists k i (Some j ∷ matched) =
    among_step i j (filter_map (waited lists k) matched) (is_matched i matched) (nat_lt 0 (count k (list_at lists i))) (nat_lt 0 (count k (list_at lists j.0))) (j.0 == i) refl
    (λ e. ap (λ n. nat_lt 0 (count k (list_at lists n))) (is_same j.0 i e)) (among_waited lists k i matched)

-- where each is at the level or lost, the query is met
met_step : (A L : Bool) (F : Option InstId) (j : InstId) (a l : Bool) → (a ≡ true) ⊎ (l ≡ true) → (A || is_some F) ≡ true → ((a && A) || is_some (or_else (only_if l j) F)) ≡ true
met_step A L F j true true e ih = or_right A true refl
met_step A L F j true false e ih = ih
met_step A L F j false true e ih = refl
met_step A L F j false false e ih = absurd (⊎_elim (λ (f : false ≡ true). cc) (λ (f : false ≡ true). cc) e)

pub met_from : (s : ℕ → Stand) (level : Level) (matched : List (Option InstId)) → ((i : ℕ) → is_matched i matched ≡ true → (at_level s level i ≡ true) ⊎ (is_lost s i ≡ true)) → (all_at s level matched || is_some (first_lost s matched)) ≡ true
met_from s level [] each = refl
met_from s level (None ∷ matched) each = met_from s level matched each
met_from s level (Some j ∷ matched) each = met_step (all_at s level matched) true (first_lost s matched) j (at_level s level j.0) (is_lost s j.0) (each j.0 (itself j.0 (is_matched j.0 matched))) (met_from s level matched (λ i m. each i (or_right (j.0 == i) (is_matched i matched) m)))

pub at_of : (s : ℕ → Stand) (level : Level) (matched : List (Option InstId)) (i : ℕ) → all_at s level matched ≡ true → is_matched i matched ≡ true → at_level s level i ≡ true
at_of s level [] i all m = absurd cc
at_of s level (None ∷ matched) i all m = at_of s level matched i all m
at_of s level (Some j ∷ matched) i all m =
    let both = and_parts (at_level s level j.0) (all_at s level matched) all in
    ⊎_elim (λ (e : (j.0 == i) ≡ true). subst (λ n. at_level s level n ≡ true) (is_same j.0 i e) both.0) (λ (e : is_matched i matched ≡ true). at_of s level matched i both.1 e) (or_cases (j.0 == i) (is_matched i matched) m)

else_some : (l : Bool) (j : InstId) (F : Option InstId) → is_some F ≡ true → is_some (or_else (only_if l j) F) ≡ true
else_some true j F e = refl
else_some false j F e = e

pub lost_some : (s : ℕ → Stand) (matched : List (Option InstId)) (i : ℕ) → is_matched i matched ≡ true → is_lost s i ≡ true → is_some (first_lost s matched) ≡ true
lost_some s [] i m l = absurd cc
lost_some s (None ∷ matched) i m l = lost_some s matched i m l
lost_some s (Some j ∷ matched) i m l =
    ⊎_elim (λ (e : (j.0 == i) ≡ true). ap (λ b. is_some (or_else (only_if b j) (first_lost s matched))) (ap (is_lost s) (is_same j.0 i e) ∙ l))
    (λ (e : is_matched i matched ≡ true). else_some (is_lost s j.0) j (first_lost s matched) (lost_some s matched i e l)) (or_cases (j.0 == i) (is_matched i matched) m)

pub record HasLost (s : ℕ → Stand) (matched : List (Option InstId)) : Type 0 where
  pub inst : ℕ
  pub is_match : is_matched inst matched ≡ true
  pub is_gone : is_lost s inst ≡ true

lost_step : (s : ℕ → Stand) (j : InstId) (matched : List (Option InstId)) (l : Bool) → is_lost s j.0 ≡ l → is_some (or_else (only_if l j) (first_lost s matched)) ≡ true → (is_some (first_lost s matched) ≡ true → HasLost s matched) → HasLost s (Some j ∷ matched)
lost_step s j matched true e is rec = record { inst = j.0; is_match = itself j.0 (is_matched j.0 matched); is_gone = e }
lost_step s j matched false e is rec = let r = rec is in record { inst = r.inst; is_match = or_right (j.0 == r.inst) (is_matched r.inst matched) r.is_match; is_gone = r.is_gone }

pub lost_of : (s : ℕ → Stand) (matched : List (Option InstId)) → is_some (first_lost s matched) ≡ true → HasLost s matched
lost_of s [] is = absurd cc
lost_of s (None ∷ matched) is = let r = lost_of s matched is in record { inst = r.inst; is_match = r.is_match; is_gone = r.is_gone }
lost_of s (Some j ∷ matched) is = lost_step s j matched (is_lost s j.0) refl is (λ e. lost_of s matched e)

pub filter_same : (s : ℕ → Stand) (level : Level) (lists : List (List ℕ)) (k : ℕ) (matched : List (Option InstId)) → ((i : ℕ) → is_matched i matched ≡ true → nat_lt 0 (count k (list_at lists i)) ≡ not (at_level s level i)) → filter_map (waited lists k) matched ≡ filter_map (missing_of s level) matched
filter_same s level lists k [] each = refl
filter_same s level lists k (None ∷ matched) each = filter_same s level lists k matched each
filter_same s level lists k (Some j ∷ matched) each =
    ap (λ t. cons_option (only_if t j) (filter_map (waited lists k) matched)) (each j.0 (itself j.0 (is_matched j.0 matched)))
    ∙ ap (λ l. cons_option (only_if (not (at_level s level j.0)) j) l) (filter_same s level lists k matched (λ i m. each i (or_right (j.0 == i) (is_matched i matched) m)))

pub decided_at : (marks : List Mark) (k : ℕ) → k < length marks → slice_get (map (λ m. m.found) marks) k ≡ Some (found_at marks k)
decided_at [] k less = absurd (omega (arith, less))
decided_at (m ∷ marks) zero less = refl
decided_at (m ∷ marks) (suc k) less = decided_at marks k (omega (arith, less))

pub waits_at : (n k j : ℕ) (b : Board) (qs : List Query) (q : Query) → j ≡ k + n → slice_get qs k ≡ Some q → slice_get (waits_from n b qs) k ≡ Some (cond (found_at b.marks.marks j) [] (filter_map (waited (waiting b q.level) j) q.matched))
waits_at n k j b [] q e is = absurd cc
waits_at n zero j b (p ∷ qs) q e is =
    let same : p ≡ q = cc in let m : n ≡ j = omega (arith, e) in
    ap (λ (x : Query). Some (cond (found_at b.marks.marks n) [] (filter_map (waited (waiting b x.level) n) x.matched))) same
    ∙ ap (λ x. Some (cond (found_at b.marks.marks x) [] (filter_map (waited (waiting b q.level) x) q.matched))) m
waits_at n (suc k) j b (p ∷ qs) q e is = waits_at (suc n) k j b qs q (omega (arith, e)) is

-- a book whose queries were told of the changes
pub record IsSettling {N : Type 0} (s : ℕ → Stand) (changed : List InstId) (a : Account N) (b c : Board) : Type 0 where
  pub kept : IsKept a b
  pub heard : AreHeard s a.queries changed b c
  pub told : IsTold s changed (ledger a b)

pub waits_told : {N : Type 0} (s : ℕ → Stand) (changed : List InstId) (a : Account N) (b c : Board) (k : ℕ) (q : Query) → IsSettling s changed a b c → slice_get a.queries k ≡ Some q → slice_get a.ends k ≡ Some None → found_at b.marks.marks k ≡ false → IsToldOf s changed (filter_map (waited (waiting b q.level) k) q.matched) q
waits_told s changed a b c k q t here unended new =
    let less : k < length b.marks.marks = let h : k < length a.queries = slice_get_within a.queries k q here in omega (arith, h, t.kept.watches.size) in
    t.told.waits k q (filter_map (waited (waiting b q.level) k) q.matched) here unended (decided_at b.marks.marks k less ∙ ap (λ (f : Bool). Some f) new)
    (waits_at 0 k k b a.queries q (omega arith) here ∙ ap (λ f. Some (cond f [] (filter_map (waited (waiting b q.level) k) q.matched))) new)

one_query : (qs : List Query) (k : ℕ) (q p : Query) → slice_get qs k ≡ Some q → slice_get qs k ≡ Some p → p ≡ q
one_query qs k q p a b = let e : Some p ≡ Some q = sym b ∙ a in cc

-- a query that was found is met
pub found_is_met : {N : Type 0} (s : ℕ → Stand) (changed : List InstId) (a : Account N) (b c : Board) (k : ℕ) (q : Query) → IsSettling s changed a b c → slice_get a.queries k ≡ Some q → slice_get a.ends k ≡ Some None → found_at c.marks.marks k ≡ true → is_met s q ≡ true
found_is_met s changed a b c k q t here unended f = step (found_at b.marks.marks k) refl
  where
    less : k < length b.marks.marks
    less = let h : k < length a.queries = slice_get_within a.queries k q here in omega (arith, h, t.kept.watches.size)

    one : (w : IsToldOf s changed (filter_map (waited (waiting b q.level) k) q.matched) q) → left_at c.marks.marks k ≡ 0 → (i : ℕ) → is_matched i q.matched ≡ true → (v : Bool) → is_among i (filter_map (waited (waiting b q.level) k) q.matched) ≡ v → (at_level s q.level i ≡ true) ⊎ (is_lost s i ≡ true)
    one w z i m true e =
        let pos : 0 < count k (list_at (waiting b q.level) i) = is_positive (count k (list_at (waiting b q.level) i)) (and_parts (is_matched i q.matched) (nat_lt 0 (count k (list_at (waiting b q.level) i))) (sym (among_waited (waiting b q.level) k i q.matched) ∙ e)).1 in
        let tot : total k (waiting c q.level) ≡ 0 = sym (t.heard.hearing.watches.left k q here) ∙ z in
        let least : count k (list_at (waiting c q.level) i) ≤ total k (waiting c q.level) = total_least k (waiting c q.level) i in
        inl (t.heard.hearing.hears.came q.level k i (omega (arith, pos, tot, least)))
    one w z i m false e = w.stays i m e

    step : (v : Bool) → found_at b.marks.marks k ≡ v → is_met s q ≡ true
    step true e = t.told.decided k q here unended (decided_at b.marks.marks k less ∙ ap (λ (x : Bool). Some x) e)
    step false e =
        ⊎_elim (λ (g : found_at b.marks.marks k ≡ true). let h : true ≡ false = sym g ∙ e in absurd cc)
        (λ (g : (left_at c.marks.marks k ≡ 0) ⊎ ((i : ℕ) × (p : Query) × (slice_get a.queries k ≡ Some p) × (is_matched i p.matched ≡ true) × (is_lost s i ≡ true))).
        ⊎_elim (λ (z : left_at c.marks.marks k ≡ 0). met_from s q.level q.matched (λ i m. one (waits_told s changed a b c k q t here unended e) z i m (is_among i (filter_map (waited (waiting b q.level) k) q.matched)) refl))
        (λ (l : (i : ℕ) × (p : Query) × (slice_get a.queries k ≡ Some p) × (is_matched i p.matched ≡ true) × (is_lost s i ≡ true)). or_right (all_at s q.level q.matched) (is_some (first_lost s q.matched)) (lost_some s q.matched l.0 (subst (λ (x : Query). is_matched l.0 x.matched ≡ true) (one_query a.queries k q l.1 here l.2) l.3) l.4)) g)
        (t.heard.hearing.hears.found k f)

found_before : {N : Type 0} (s : ℕ → Stand) (changed : List InstId) (a : Account N) (b c : Board) (k : ℕ) (v : Bool) → IsSettling s changed a b c → found_at c.marks.marks k ≡ false → found_at b.marks.marks k ≡ v → found_at b.marks.marks k ≡ false
found_before s changed a b c k true t f e = let g : true ≡ false = sym (t.heard.hearing.hears.kept k e) ∙ f in absurd cc
found_before s changed a b c k false t f e = e

-- what an open query that wasn't found is listed under isn't at its level
pub listed_is_missing : {N : Type 0} (s : ℕ → Stand) (changed : List InstId) (a : Account N) (b c : Board) (k i : ℕ) (q : Query) → IsSettling s changed a b c → slice_get a.queries k ≡ Some q → slice_get a.ends k ≡ Some None → found_at c.marks.marks k ≡ false → is_matched i q.matched ≡ true → 0 < count k (list_at (waiting c q.level) i) → at_level s q.level i ≡ true → ⊥
listed_is_missing s changed a b c k i q t here unended f m pos is =
    let w = waits_told s changed a b c k q t here unended (found_before s changed a b c k (found_at b.marks.marks k) t f refl) in
    let old : 0 < count k (list_at (waiting b q.level) i) = omega (arith, pos, t.heard.hearing.hears.fewer q.level k i) in
    let am : is_among i (filter_map (waited (waiting b q.level) k) q.matched) ≡ true = among_waited (waiting b q.level) k i q.matched ∙ ap (λ x. x && nat_lt 0 (count k (list_at (waiting b q.level) i))) m ∙ positive (count k (list_at (waiting b q.level) i)) old in
    let none : count k (list_at (waiting c q.level) i) ≡ 0 = ap (λ xs. count k xs) ((t.heard.each i (w.came i am is)).at q.level is) in
    omega (arith, none, pos)

-- a query that is met was found
pub met_is_found : {N : Type 0} (s : ℕ → Stand) (changed : List InstId) (a : Account N) (b c : Board) (k : ℕ) (q : Query) → IsSettling s changed a b c → slice_get a.queries k ≡ Some q → slice_get a.ends k ≡ Some None → is_met s q ≡ true → found_at c.marks.marks k ≡ true
met_is_found s changed a b c k q t here unended met = step (found_at c.marks.marks k) refl
  where
    none : found_at c.marks.marks k ≡ false → all_at s q.level q.matched ≡ true → (i n : ℕ) → count k (list_at (waiting c q.level) i) ≡ n → count k (list_at (waiting c q.level) i) ≡ 0
    none f all i zero e = e
    none f all i (suc n) e =
        let pos : 0 < count k (list_at (waiting c q.level) i) = omega (arith, e) in
        let own = t.heard.hearing.watches.own_waiting q.level k i pos in
        let m : is_matched i q.matched ≡ true = subst (λ (x : Query). is_matched i x.matched ≡ true) (one_query a.queries k q own.0 here own.1) own.3 in
        absurd (listed_is_missing s changed a b c k i q t here unended f m pos (at_of s q.level q.matched i all m))

    no : found_at c.marks.marks k ≡ false → ⊥
    no f =
        ⊎_elim (λ (all : all_at s q.level q.matched ≡ true).
        let z : total k (waiting c q.level) ≡ 0 = total_none k (waiting c q.level) (λ i. none f all i (count k (list_at (waiting c q.level) i)) refl) in
        let l : 0 < left_at c.marks.marks k = t.heard.hearing.watches.waits k (slice_get_within a.queries k q here) f in
        let g : left_at c.marks.marks k ≡ total k (waiting c q.level) = t.heard.hearing.watches.left k q here in
        omega (arith, z, l, g))
        (λ (l : is_some (first_lost s q.matched) ≡ true).
        let h = lost_of s q.matched l in
        let w = waits_told s changed a b c k q t here unended (found_before s changed a b c k (found_at b.marks.marks k) t f refl) in
        let z : count k (list_at c.all.lists h.inst) ≡ 0 = ap (λ xs. count k xs) ((t.heard.each h.inst (w.lost h.inst h.is_match h.is_gone)).lost h.is_gone) in
        let p : 0 < count k (list_at c.all.lists h.inst) = t.heard.hearing.watches.heard_of k h.inst q here f h.is_match in
        omega (arith, z, p))
        (or_cases (all_at s q.level q.matched) (is_some (first_lost s q.matched)) met)

    step : (v : Bool) → found_at c.marks.marks k ≡ v → found_at c.marks.marks k ≡ true
    step true e = e
    step false e = absurd (no e)

-- an open query that isn't found waits for exactly what isn't at its level
pub still_missing : {N : Type 0} (s : ℕ → Stand) (changed : List InstId) (a : Account N) (b c : Board) (k : ℕ) (q : Query) → IsSettling s changed a b c → slice_get a.queries k ≡ Some q → slice_get a.ends k ≡ Some None → found_at c.marks.marks k ≡ false → filter_map (waited (waiting c q.level) k) q.matched ≡ missing s q
still_missing s changed a b c k q t here unended f = filter_same s q.level (waiting c q.level) k q.matched (λ i m. bool_same (nat_lt 0 (count k (list_at (waiting c q.level) i))) (not (at_level s q.level i)) (λ p. not_at i m (at_level s q.level i) refl p) (λ n. listed i m (at_level s q.level i) refl n))
  where
    not_at : (i : ℕ) → is_matched i q.matched ≡ true → (v : Bool) → at_level s q.level i ≡ v → nat_lt 0 (count k (list_at (waiting c q.level) i)) ≡ true → not (at_level s q.level i) ≡ true
    not_at i m true e p = absurd (listed_is_missing s changed a b c k i q t here unended f m (is_positive (count k (list_at (waiting c q.level) i)) p) e)
    not_at i m false e p = ap not e

    unmet : is_met s q ≡ true → ⊥
    unmet met = let g : true ≡ false = sym (met_is_found s changed a b c k q t here unended met) ∙ f in cc

    old : found_at b.marks.marks k ≡ false
    old = found_before s changed a b c k (found_at b.marks.marks k) t f refl

    known : (i : ℕ) → is_matched i q.matched ≡ true → at_level s q.level i ≡ false → (v : Bool) → is_among i (filter_map (waited (waiting b q.level) k) q.matched) ≡ v → 0 < count k (list_at (waiting b q.level) i)
    known i m e true g = is_positive (count k (list_at (waiting b q.level) i)) (and_parts (is_matched i q.matched) (nat_lt 0 (count k (list_at (waiting b q.level) i))) (sym (among_waited (waiting b q.level) k i q.matched) ∙ g)).1
    known i m e false g = absurd (⊎_elim (λ (x : at_level s q.level i ≡ true). let h : true ≡ false = sym x ∙ e in cc) (λ (x : is_lost s i ≡ true). unmet (or_right (all_at s q.level q.matched) (is_some (first_lost s q.matched)) (lost_some s q.matched i m x))) ((waits_told s changed a b c k q t here unended old).stays i m g))

    enough : (i x y : ℕ) → count k (list_at (waiting c q.level) i) ≡ x → count k (list_at (waiting b q.level) i) ≡ y → at_level s q.level i ≡ false → y ≤ x
    enough i x y ex ey e = ⊎_elim (λ (g : (nat_le (suc x) y ≡ true) × (suc x ≤ y)). absurd (let h : at_level s q.level i ≡ true = t.heard.hearing.hears.came q.level k i (omega (arith, g.1, ex, ey)) in let l : true ≡ false = sym h ∙ e in cc)) (λ (g : (nat_le (suc x) y ≡ false) × (y < suc x)). omega (arith, g.1)) (leb_tells (suc x) y)

    listed : (i : ℕ) → is_matched i q.matched ≡ true → (v : Bool) → at_level s q.level i ≡ v → not (at_level s q.level i) ≡ true → nat_lt 0 (count k (list_at (waiting c q.level) i)) ≡ true
    listed i m true e n = let g : false ≡ true = sym (ap not e) ∙ n in absurd cc
    listed i m false e n =
        let o : 0 < count k (list_at (waiting b q.level) i) = known i m e (is_among i (filter_map (waited (waiting b q.level) k) q.matched)) refl in
        let l : count k (list_at (waiting b q.level) i) ≤ count k (list_at (waiting c q.level) i) = enough i (count k (list_at (waiting c q.level) i)) (count k (list_at (waiting b q.level) i)) refl refl e in
        positive (count k (list_at (waiting c q.level) i)) (omega (arith, o, l))
