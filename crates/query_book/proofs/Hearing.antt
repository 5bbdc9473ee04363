-- What becomes of the lists and marks when an instance came to a level, or is lost.
use Rattle.std.proofs.Common.{◌≡◌, ◌≢◌, ◌⊎◌, inl, inr, ⊎_elim, ℕ, Bool, true, false, Some, ◌+◌, ◌<◌, ◌≤◌, List, [], ◌∷◌, ◌++◌, zero, suc, refl, ap, sym, ◌∙◌, subst, arith}
use Rattle.std.specs.Prelude.{◌==◌, ◌||◌, nat_le, slice_get}
use Rattle.std.proofs.lemmas.Bool.Decides.{eqb_tells, leb_tells}
use Rattle.std.proofs.lemmas.Bool.{or_right, or_cases}
use Rattle.orc_ids.specs.declared.lookup.Level.{Level}
use Rattle.orc_ids.specs.declared.lookup.Level.TheVariants.{Resolved, Ready}
use Rattle.session_model.specs.Query.{Stand}
use Rattle.session_model.specs.declared.rows.Query.{Query}
use Rattle.query_book.specs.declared.board.Board.{Board}
use Rattle.query_book.specs.Stands.{at_level, is_lost, is_matched, is_among}
use Rattle.query_book.specs.Counts.{count, total, list_at}
use Rattle.query_book.specs.Marks.{left_at, found_at, one_if}
use Rattle.query_book.specs.Board.{waiting, Arriving, Losing, Watches, Hears, IsHearing, IsHeard, AreHeard}
use Rattle.orc_ids.specs.declared.ids.InstId.{InstId}
use Rattle.query_book.proofs.Parts.{total_least}

pub hears_nothing : (s : ℕ → Stand) (qs : List Query) (b : Board) → Hears s qs b b
hears_nothing s qs b = record {
  fewer = λ l k i. omega arith;
  fewer_all = λ k i. omega arith;
  came = λ l k i less. absurd (omega (arith, less));
  kept = λ k f. f;
  found = λ k f. inl f;
  less = λ k. omega arith;
  met = λ k. refl;
}

pub hearing_nothing : (s : ℕ → Stand) (qs : List Query) (b : Board) → Watches qs b → IsHearing s qs b b
hearing_nothing s qs b w = record { watches = w; hears = hears_nothing s qs b }

hears_more : (s : ℕ → Stand) (qs : List Query) (a b c : Board) → Hears s qs a b → Hears s qs b c → Hears s qs a c
hears_more s qs a b c h g = record {
  fewer = λ l k i. omega (arith, h.fewer l k i, g.fewer l k i);
  fewer_all = λ k i. omega (arith, h.fewer_all k i, g.fewer_all k i);
  came = λ l k i less. came_in l k i less (count k (list_at (waiting c l) i)) (count k (list_at (waiting b l) i)) refl refl;
  kept = λ k f. g.kept k (h.kept k f);
  found = λ k f. ⊎_elim (λ (e : found_at b.marks.marks k ≡ true).
      ⊎_elim (λ (old : found_at a.marks.marks k ≡ true). inl old)
      (λ (new : (left_at b.marks.marks k ≡ 0) ⊎ ((i : ℕ) × (q : Query) × (slice_get qs k ≡ Some q) × (is_matched i q.matched ≡ true) × (is_lost s i ≡ true))).
      ⊎_elim (λ (z : left_at b.marks.marks k ≡ 0). inr (inl (omega (arith, z, g.less k)))) (λ lost. inr (inr lost)) new)
      (h.found k e))
      (λ new. inr new) (g.found k f);
  less = λ k. omega (arith, h.less k, g.less k);
  met = λ k. omega (arith, h.met k, g.met k);
}
  where
    came_in : (l : Level) (k i : ℕ) → count k (list_at (waiting c l) i) < count k (list_at (waiting a l) i) → (n m : ℕ) → count k (list_at (waiting c l) i) ≡ n → count k (list_at (waiting b l) i) ≡ m → at_level s l i ≡ true
    came_in l k i less n m en em = split (leb_tells (suc n) m)
      where
        split : ((nat_le (suc n) m ≡ true) × (suc n ≤ m)) ⊎ ((nat_le (suc n) m ≡ false) × (m < suc n)) → at_level s l i ≡ true
        split (inl e) = g.came l k i (omega (arith, e.1, en, em))
        split (inr e) = h.came l k i (omega (arith, e.1, en, em, less))

pub hearing_more : (s : ℕ → Stand) (qs : List Query) (a b c : Board) → IsHearing s qs a b → IsHearing s qs b c → IsHearing s qs a c
hearing_more s qs a b c h g = record { watches = g.watches; hears = hears_more s qs a b c h.hears g.hears }

same_query : (qs : List Query) (k : ℕ) (q p : Query) → slice_get qs k ≡ Some q → slice_get qs k ≡ Some p → q ≡ p
same_query qs k q p a b = let e : Some q ≡ Some p = sym a ∙ b in cc

-- an instance came to a level, and the queries that waited for it have one match less
pub arrived : (s : ℕ → Stand) (qs : List Query) (b c : Board) (level : Level) (at : ℕ) → Watches qs b → at_level s level at ≡ true → Arriving at (waiting b level) (waiting c level) b.marks c.marks → c.all.lists ≡ b.all.lists → ((l : Level) → (l ≡ level) ⊎ (waiting c l ≡ waiting b l)) → IsHearing s qs b c
arrived s qs b c level at w is a all other = record {
  watches = record {
    size = a.size ∙ w.size;
    heard_of = λ k i q there new m. subst (λ ls. 0 < count k (list_at ls i)) (sym all) (w.heard_of k i q there (new_before k (found_at b.marks.marks k) refl new) m);
    own = λ k i pos. w.own k i (subst (λ ls. 0 < count k (list_at ls i)) all pos);
    own_waiting = λ l k i pos. w.own_waiting l k i (omega (arith, pos, fewer l k i));
    left = λ k q there. left k q there (other q.level);
    waits = λ k less new. a.waits k (w.waits k less) new;
  };
  hears = record {
    fewer = fewer;
    fewer_all = λ k i. subst (λ ls. count k (list_at ls i) ≤ count k (list_at b.all.lists i)) (sym all) (omega arith);
    came = λ l k i less. came l k i less (other l);
    kept = a.kept;
    found = λ k f. ⊎_elim (λ (e : found_at b.marks.marks k ≡ true). inl e) (λ (e : left_at c.marks.marks k ≡ 0). inr (inl e)) (a.found k f);
    less = λ k. omega (arith, a.lefts k, a.fewer k);
    met = a.met;
  };
}
  where
    new_before : (k : ℕ) (f : Bool) → found_at b.marks.marks k ≡ f → found_at c.marks.marks k ≡ false → found_at b.marks.marks k ≡ false
    new_before k true e new = let g : true ≡ false = sym (a.kept k e) ∙ new in absurd cc
    new_before k false e new = e

    here : (k i : ℕ) → count k (list_at (waiting c level) i) ≤ count k (list_at (waiting b level) i)
    here k i = ⊎_elim (λ (e : ((i == at) ≡ true) × (i ≡ at)). subst (λ j. count k (list_at (waiting c level) j) ≤ count k (list_at (waiting b level) j)) (sym e.1) (a.fewer k))
        (λ (e : ((i == at) ≡ false) × (i ≢ at)). subst (λ xs. count k xs ≤ count k (list_at (waiting b level) i)) (sym (a.others i e.1)) (omega arith))
        (eqb_tells i at)

    fewer : (l : Level) (k i : ℕ) → count k (list_at (waiting c l) i) ≤ count k (list_at (waiting b l) i)
    fewer l k i = ⊎_elim (λ (e : l ≡ level). subst (λ v. count k (list_at (waiting c v) i) ≤ count k (list_at (waiting b v) i)) (sym e) (here k i))
        (λ (e : waiting c l ≡ waiting b l). subst (λ ls. count k (list_at ls i) ≤ count k (list_at (waiting b l) i)) (sym e) (omega arith))
        (other l)

    came : (l : Level) (k i : ℕ) → count k (list_at (waiting c l) i) < count k (list_at (waiting b l) i) → (l ≡ level) ⊎ (waiting c l ≡ waiting b l) → at_level s l i ≡ true
    came l k i less (inr e) = absurd (let g : count k (list_at (waiting c l) i) ≡ count k (list_at (waiting b l) i) = ap (λ ls. count k (list_at ls i)) e in omega (arith, g, less))
    came l k i less (inl e) = ⊎_elim (λ (f : ((i == at) ≡ true) × (i ≡ at)). subst (λ v. at_level s v i ≡ true) (sym e) (subst (λ j. at_level s level j ≡ true) (sym f.1) is))
        (λ (f : ((i == at) ≡ false) × (i ≢ at)). absurd (let g : count k (list_at (waiting c l) i) ≡ count k (list_at (waiting b l) i) = subst (λ v. count k (list_at (waiting c v) i) ≡ count k (list_at (waiting b v) i)) (sym e) (ap (λ xs. count k xs) (a.others i f.1)) in omega (arith, g, less)))
        (eqb_tells i at)

    left_here : (k : ℕ) (q : Query) → slice_get qs k ≡ Some q → q.level ≡ level → left_at c.marks.marks k ≡ total k (waiting c q.level)
    left_here k q there e =
        let o : left_at b.marks.marks k ≡ total k (waiting b level) = w.left k q there ∙ ap (λ v. total k (waiting b v)) e in
        let n : left_at c.marks.marks k ≡ total k (waiting c level) = omega (arith, o, a.lefts k, a.totals k) in
        n ∙ ap (λ v. total k (waiting c v)) (sym e)

    left : (k : ℕ) (q : Query) → slice_get qs k ≡ Some q → (q.level ≡ level) ⊎ (waiting c q.level ≡ waiting b q.level) → left_at c.marks.marks k ≡ total k (waiting c q.level)
    left k q there (inl e) = left_here k q there e
    left k q there (inr e) = by_count (count k (list_at (waiting b level) at)) refl
      where
        by_count : (n : ℕ) → count k (list_at (waiting b level) at) ≡ n → left_at c.marks.marks k ≡ total k (waiting c q.level)
        by_count zero z =
            let o : left_at b.marks.marks k ≡ total k (waiting b q.level) = w.left k q there in
            let n : left_at c.marks.marks k ≡ left_at b.marks.marks k = omega (arith, z, a.lefts k, a.fewer k) in
            n ∙ o ∙ ap (λ ls. total k ls) (sym e)
        by_count (suc n) z =
            let own = w.own_waiting level k at (omega (arith, z)) in
            left_here k q there (ap (λ (p : Query). p.level) (same_query qs k q own.0 there own.1) ∙ own.2)

-- an instance is lost, and the queries that matched it are met
pub lost_one : (s : ℕ → Stand) (qs : List Query) (b c : Board) (at : ℕ) → Watches qs b → is_lost s at ≡ true → Losing at b.all.lists c.all.lists b.marks c.marks → ((l : Level) → waiting c l ≡ waiting b l) → IsHearing s qs b c
lost_one s qs b c at w is a same = record {
  watches = record {
    size = a.size ∙ w.size;
    heard_of = λ k i q there new m. heard_of k i q there new m;
    own = λ k i pos. w.own k i (omega (arith, pos, fewer k i));
    own_waiting = λ l k i pos. w.own_waiting l k i (subst (λ ls. 0 < count k (list_at ls i)) (same l) pos);
    left = λ k q there. a.lefts k ∙ w.left k q there ∙ ap (λ ls. total k ls) (sym (same q.level));
    waits = λ k less new. subst (λ n. 0 < n) (sym (a.lefts k)) (w.waits k less (new_before k (found_at b.marks.marks k) refl new));
  };
  hears = record {
    fewer = λ l k i. subst (λ ls. count k (list_at ls i) ≤ count k (list_at (waiting b l) i)) (sym (same l)) (omega arith);
    fewer_all = fewer;
    came = λ l k i less. absurd (let g : count k (list_at (waiting c l) i) ≡ count k (list_at (waiting b l) i) = ap (λ ls. count k (list_at ls i)) (same l) in omega (arith, g, less));
    kept = a.kept;
    found = λ k f. ⊎_elim (λ (e : found_at b.marks.marks k ≡ true). inl e)
        (λ (pos : 0 < count k (list_at b.all.lists at)). let own = w.own k at pos in inr (inr (at, own.0, own.1, own.2, is))) (a.found k f);
    less = λ k. omega (arith, a.lefts k);
    met = a.met;
  };
}
  where
    new_before : (k : ℕ) (f : Bool) → found_at b.marks.marks k ≡ f → found_at c.marks.marks k ≡ false → found_at b.marks.marks k ≡ false
    new_before k true e new = let g : true ≡ false = sym (a.kept k e) ∙ new in absurd cc
    new_before k false e new = e

    fewer : (k i : ℕ) → count k (list_at c.all.lists i) ≤ count k (list_at b.all.lists i)
    fewer k i = ⊎_elim (λ (e : ((i == at) ≡ true) × (i ≡ at)). subst (λ j. count k (list_at c.all.lists j) ≤ count k (list_at b.all.lists j)) (sym e.1) (a.fewer k))
        (λ (e : ((i == at) ≡ false) × (i ≢ at)). subst (λ xs. count k xs ≤ count k (list_at b.all.lists i)) (sym (a.others i e.1)) (omega arith))
        (eqb_tells i at)

    not_taken : (k : ℕ) → found_at c.marks.marks k ≡ false → count k (list_at b.all.lists at) ≤ count k (list_at c.all.lists at)
    not_taken k new = split (leb_tells (suc (count k (list_at c.all.lists at))) (count k (list_at b.all.lists at)))
      where
        split : ((nat_le (suc (count k (list_at c.all.lists at))) (count k (list_at b.all.lists at)) ≡ true) × (suc (count k (list_at c.all.lists at)) ≤ count k (list_at b.all.lists at))) ⊎ ((nat_le (suc (count k (list_at c.all.lists at))) (count k (list_at b.all.lists at)) ≡ false) × (count k (list_at b.all.lists at) < suc (count k (list_at c.all.lists at)))) → count k (list_at b.all.lists at) ≤ count k (list_at c.all.lists at)
        split (inl e) = let g : true ≡ false = sym (a.taken k e.1) ∙ new in absurd cc
        split (inr e) = omega (arith, e.1)

    heard_of : (k i : ℕ) (q : Query) → slice_get qs k ≡ Some q → found_at c.marks.marks k ≡ false → is_matched i q.matched ≡ true → 0 < count k (list_at c.all.lists i)
    heard_of k i q there new m =
        let pos : 0 < count k (list_at b.all.lists i) = w.heard_of k i q there (new_before k (found_at b.marks.marks k) refl new) m in
        ⊎_elim (λ (e : ((i == at) ≡ true) × (i ≡ at)). subst (λ j. 0 < count k (list_at c.all.lists j)) (sym e.1) (let h : 0 < count k (list_at b.all.lists at) = subst (λ j. 0 < count k (list_at b.all.lists j)) e.1 pos in let t = not_taken k new in omega (arith, h, t)))
        (λ (e : ((i == at) ≡ false) × (i ≢ at)). subst (λ xs. 0 < count k xs) (sym (a.others i e.1)) pos)
        (eqb_tells i at)

none_left : (xs : List ℕ) → ((k : ℕ) → count k xs ≡ 0) → xs ≡ []
none_left [] none = refl
none_left (x ∷ xs) none =
    absurd (⊎_elim (λ (e : ((x == x) ≡ true) × (x ≡ x)). let z : one_if (x == x) + count x xs ≡ 0 = none x in let o : one_if (x == x) ≡ 1 = ap one_if e.0 in omega (arith, z, o)) (λ (e : ((x == x) ≡ false) × (x ≢ x)). e.1 refl) (eqb_tells x x))

-- what was heard of stays so
pub heard_stays : (s : ℕ → Stand) (qs : List Query) (i : ℕ) (b c : Board) → Hears s qs b c → IsHeard s i b → IsHeard s i c
heard_stays s qs i b c h old = record {
  at = λ l is. none_left (list_at (waiting c l) i) (λ k. let e : count k (list_at (waiting b l) i) ≡ 0 = ap (λ xs. count k xs) (old.at l is) in omega (arith, e, h.fewer l k i));
  lost = λ is. none_left (list_at c.all.lists i) (λ k. let e : count k (list_at b.all.lists i) ≡ 0 = ap (λ xs. count k xs) (old.lost is) in omega (arith, e, h.fewer_all k i));
}

pub enough_left : (qs : List Query) (b : Board) (level : Level) (at k : ℕ) → Watches qs b → count k (list_at (waiting b level) at) ≤ left_at b.marks.marks k
enough_left qs b level at k w = by_count (count k (list_at (waiting b level) at)) refl
  where
    by_count : (n : ℕ) → count k (list_at (waiting b level) at) ≡ n → count k (list_at (waiting b level) at) ≤ left_at b.marks.marks k
    by_count zero z = omega (arith, z)
    by_count (suc n) z =
        let own = w.own_waiting level k at (omega (arith, z)) in
        let l : left_at b.marks.marks k ≡ total k (waiting b level) = w.left k own.0 own.1 ∙ ap (λ v. total k (waiting b v)) own.2 in
        let t : count k (list_at (waiting b level) at) ≤ total k (waiting b level) = total_least k (waiting b level) at in
        omega (arith, l, t)

pub only_resolved : (b c : Board) → c.ready.lists ≡ b.ready.lists → (l : Level) → (l ≡ Resolved) ⊎ (waiting c l ≡ waiting b l)
only_resolved b c same Resolved = inl refl
only_resolved b c same Ready = inr same

pub only_ready : (b c : Board) → c.resolved.lists ≡ b.resolved.lists → (l : Level) → (l ≡ Ready) ⊎ (waiting c l ≡ waiting b l)
only_ready b c same Resolved = inr same
only_ready b c same Ready = inl refl

pub both_same : (b c : Board) → c.resolved.lists ≡ b.resolved.lists → c.ready.lists ≡ b.ready.lists → (l : Level) → waiting c l ≡ waiting b l
both_same b c first second Resolved = first
both_same b c first second Ready = second

still_none : (s : ℕ → Stand) (qs : List Query) (b c : Board) (l : Level) (i : ℕ) → Hears s qs b c → list_at (waiting b l) i ≡ [] → list_at (waiting c l) i ≡ []
still_none s qs b c l i h none = none_left (list_at (waiting c l) i) (λ k. let e : count k (list_at (waiting b l) i) ≡ 0 = ap (λ xs. count k xs) none in omega (arith, e, h.fewer l k i))

pub heard_all : (s : ℕ → Stand) (qs : List Query) (i : ℕ) (b c d : Board) → Hears s qs b c → Hears s qs c d → (at_level s Resolved i ≡ true → list_at b.resolved.lists i ≡ []) → (at_level s Ready i ≡ true → list_at c.ready.lists i ≡ []) → (is_lost s i ≡ true → list_at d.all.lists i ≡ []) → IsHeard s i d
heard_all s qs i b c d h g resolved ready gone = record { at = at; lost = gone }
  where
    at : (level : Level) → at_level s level i ≡ true → list_at (waiting d level) i ≡ []
    at Resolved is = still_none s qs c d Resolved i g (still_none s qs b c Resolved i h (resolved is))
    at Ready is = still_none s qs c d Ready i g (ready is)

pub heard_none : (s : ℕ → Stand) (qs : List Query) (b : Board) → Watches qs b → AreHeard s qs [] b b
heard_none s qs b w = record { hearing = hearing_nothing s qs b w; each = λ i e. absurd cc }

among_push : (i : ℕ) (done : List InstId) (x : InstId) → is_among i (done ++ x ∷ []) ≡ true → (is_among i done ≡ true) ⊎ ((x.0 == i) ≡ true)
among_push i [] x e = ⊎_elim (λ (f : (x.0 == i) ≡ true). inr f) (λ (f : false ≡ true). absurd cc) (or_cases (x.0 == i) false e)
among_push i (y ∷ done) x e = ⊎_elim (λ (f : (y.0 == i) ≡ true). inl (ap (λ v. v || is_among i done) f))
    (λ (f : is_among i (done ++ x ∷ []) ≡ true). ⊎_elim (λ (g : is_among i done ≡ true). inl (or_right (y.0 == i) (is_among i done) g)) (λ (g : (x.0 == i) ≡ true). inr g) (among_push i done x f))
    (or_cases (y.0 == i) (is_among i (done ++ x ∷ [])) e)

is_same : (a b : ℕ) → (a == b) ≡ true → a ≡ b
is_same a b e = ⊎_elim (λ (f : ((a == b) ≡ true) × (a ≡ b)). f.1) (λ (f : ((a == b) ≡ false) × (a ≢ b)). let g : false ≡ true = sym f.0 ∙ e in absurd cc) (eqb_tells a b)

pub heard_more : (s : ℕ → Stand) (qs : List Query) (done done' : List InstId) (x : InstId) (a b c : Board) → AreHeard s qs done a b → IsHearing s qs b c → IsHeard s x.0 c → done' ≡ done ++ x ∷ [] → AreHeard s qs done' a c
heard_more s qs done done' x a b c old h new more = record {
  hearing = hearing_more s qs a b c old.hearing h;
  each = λ i e. ⊎_elim (λ (f : is_among i done ≡ true). heard_stays s qs i b c h.hears (old.each i f))
      (λ (f : (x.0 == i) ≡ true). subst (λ j. IsHeard s j c) (is_same x.0 i f) new)
      (among_push i done x (sym (ap (λ is. is_among i is) more) ∙ e));
}
