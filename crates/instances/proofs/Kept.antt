-- A change of rows that leaves each of its unit leaves the spans.
use Rattle.std.proofs.Common.{◌≡◌, ℕ, zero, suc, ◌+◌, ◌<◌, ◌≤◌, ◌-◌, map, List, [], ◌∷◌, ◌++◌, length, slice_get, Option, Some, None, option_map, ◌⊎◌, inl, inr, refl, ap, sym, subst, ◌∙◌, arith}
use Rattle.std.proofs.lemmas.List.{length-append}
use Rattle.std.proofs.lemmas.Option.{none-some, same_Some, slice_get_within}
use Rattle.list_laws.proofs.Lists.{appended_below}
use Rattle.orc_ids.specs.declared.limits.TheConstants.{INSTANCE_LIMIT}
use Rattle.session_model.specs.Lists.{numbered}
use Rattle.session_model.specs.declared.rows.InstRow.{InstRow}
use Rattle.instances.specs.Spans.{IsSpan, AreSpanned}
use Rattle.instances.specs.Table.{AreChanged}
use Rattle.instances.specs.declared.span.Span.{Span}

pub map_changed : (f : InstRow → InstRow) (rows : List InstRow) → AreChanged (λ _ r. f r) rows (map f rows)
map_changed f [] i = refl
map_changed f (r ∷ rs) zero = refl
map_changed f (r ∷ rs) (suc i) = map_changed f rs i

numbered_from : (f : ℕ → InstRow → InstRow) (n : ℕ) (rows : List InstRow) (i : ℕ) → slice_get (numbered f n rows) i ≡ option_map (f (n + i)) (slice_get rows i)
numbered_from f n [] i = refl
numbered_from f n (r ∷ rs) zero = ap (λ k. Some (f k r)) (omega arith)
numbered_from f n (r ∷ rs) (suc i) = numbered_from f (n + 1) rs i ∙ ap (λ k. option_map (f k) (slice_get rs i)) (omega arith)

pub numbered_changed : (f : ℕ → InstRow → InstRow) (rows : List InstRow) → AreChanged f rows (numbered f 0 rows)
numbered_changed f rows i = numbered_from f 0 rows i ∙ ap (λ k. option_map (f k) (slice_get rows i)) (omega arith)

pub changed_length : (f : ℕ → InstRow → InstRow) (old new : List InstRow) → AreChanged f old new → length new ≡ length old
changed_length f [] [] h = refl
changed_length f [] (y ∷ ys) h = absurd (none-some y (sym (h 0)))
changed_length f (x ∷ xs) [] h = absurd (none-some (f 0 x) (h 0))
changed_length f (x ∷ xs) (y ∷ ys) h = ap suc (changed_length (λ j. f (suc j)) xs ys (λ j. h (suc j)))

-- it was there before
was : (f : ℕ → InstRow → InstRow) (old new : List InstRow) → ((j : ℕ) (y : InstRow) → (f j y).unit ≡ y.unit) → AreChanged f old new → (i : ℕ) (r : InstRow) → slice_get new i ≡ Some r → (q : InstRow) × (slice_get old i ≡ Some q) × (r.unit.0 ≡ q.unit.0)
was f old new same h i r e = split (slice_get old i) refl (sym (h i) ∙ e)
  where
    split : (o : Option InstRow) → slice_get old i ≡ o → option_map (f i) o ≡ Some r → (q : InstRow) × (slice_get old i ≡ Some q) × (r.unit.0 ≡ q.unit.0)
    split None t e = absurd (none-some r e)
    split (Some q) t e = (q, t, ap (λ (x : InstRow). x.unit.0) (sym (same_Some (f i q) r e)) ∙ ap (λ u. u.0) (same i q))

pub spanned_changed : (f : ℕ → InstRow → InstRow) (old new : List InstRow) (its : List Span) → ((j : ℕ) (y : InstRow) → (f j y).unit ≡ y.unit) → AreChanged f old new → AreSpanned old its → AreSpanned new its
spanned_changed f old new its same h s = record {
  few = let b = s.few in omega (arith, b, long);
  together = λ u x e. let p = s.together u x e in record {
    inside = let b = p.inside in omega (arith, b, long);
    its = λ i r t low high. let q = was f old new same h i r t in q.2 ∙ p.its i q.0 q.1 low high;
    only = λ i r t is. let q = was f old new same h i r t in p.only i q.0 q.1 (sym q.2 ∙ is);
  };
  there = λ i r e. let q = was f old new same h i r e in subst (λ n. n < length its) (sym q.2) (s.there i q.0 q.1);
}
  where
    long : length new ≡ length old
    long = changed_length f old new h

-- One more unit

behind : {X : Type 0} (xs ys : List X) (i : ℕ) → length xs ≤ i → slice_get (xs ++ ys) i ≡ slice_get ys (i - length xs)
behind [] ys i h = ap (slice_get ys) (omega arith)
behind (x ∷ xs) ys zero h = absurd (omega (arith, h))
behind (x ∷ xs) ys (suc i) h = behind xs ys i (omega (arith, h)) ∙ ap (slice_get ys) (omega arith)

below_or_not : (i n : ℕ) → (i < n) ⊎ (n ≤ i)
below_or_not zero zero = inr (omega arith)
below_or_not zero (suc n) = inl (omega arith)
below_or_not (suc i) zero = inr (omega arith)
below_or_not (suc i) (suc n) = split (below_or_not i n)
  where
    split : (i < n) ⊎ (n ≤ i) → (suc i < suc n) ⊎ (suc n ≤ suc i)
    split (inl a) = inl (omega (arith, a))
    split (inr b) = inr (omega (arith, b))

one : {X : Type 0} (x y : X) (i : ℕ) → slice_get (x ∷ []) i ≡ Some y → (i ≡ 0) × (y ≡ x)
one x y zero e = (refl, sym (same_Some x y e))
one x y (suc i) e = absurd (none-some y e)

pub spanned_more : (rows fresh : List InstRow) (its : List Span) (s : Span) → AreSpanned rows its → length (rows ++ fresh) ≤ INSTANCE_LIMIT → s.first ≡ length rows → s.count ≡ length fresh → ((i : ℕ) (r : InstRow) → slice_get fresh i ≡ Some r → r.unit.0 ≡ length its) → AreSpanned (rows ++ fresh) (its ++ s ∷ [])
spanned_more rows fresh its s old few first count new = record {
  few = few;
  together = λ u x e. at u x e (below_or_not u (length its));
  there = λ i r e. unit_there i r e (below_or_not i (length rows));
}
  where
    long : length (rows ++ fresh) ≡ length rows + length fresh
    long = length-append rows fresh

    longer : length (its ++ s ∷ []) ≡ length its + 1
    longer = length-append its (s ∷ [])

    old_row : (i : ℕ) (r : InstRow) → i < length rows → slice_get (rows ++ fresh) i ≡ Some r → slice_get rows i ≡ Some r
    old_row i r b e = sym (appended_below rows fresh i b) ∙ e

    new_row : (i : ℕ) (r : InstRow) → length rows ≤ i → slice_get (rows ++ fresh) i ≡ Some r → r.unit.0 ≡ length its
    new_row i r b e = new (i - length rows) r (sym (behind rows fresh i b) ∙ e)

    unit_there : (i : ℕ) (r : InstRow) → slice_get (rows ++ fresh) i ≡ Some r → (i < length rows) ⊎ (length rows ≤ i) → r.unit.0 < length (its ++ s ∷ [])
    unit_there i r e (inl b) = let c = old.there i r (old_row i r b e) in omega (arith, c, longer)
    unit_there i r e (inr b) = let c = new_row i r b e in omega (arith, c, longer)

    old_span : (u : ℕ) (x : Span) → slice_get its u ≡ Some x → u < length its → IsSpan (rows ++ fresh) u x.first x.count
    old_span u x e below = let p = old.together u x e in record {
      inside = let b = p.inside in omega (arith, b, long);
      its = λ i r t low high. p.its i r (old_row i r (let b = p.inside in omega (arith, b, high)) t) low high;
      only = λ i r t is. only_old i r t is (below_or_not i (length rows));
    }
      where
        only_old : (i : ℕ) (r : InstRow) → slice_get (rows ++ fresh) i ≡ Some r → r.unit.0 ≡ u → (i < length rows) ⊎ (length rows ≤ i) → (x.first ≤ i) × (i < x.first + x.count)
        only_old i r t is (inl b) = (old.together u x e).only i r (old_row i r b t) is
        only_old i r t is (inr b) = let c = new_row i r b t in absurd (omega (arith, c, is, below))

    new_span : IsSpan (rows ++ fresh) (length its) s.first s.count
    new_span = record {
      inside = omega (arith, first, count, long);
      its = λ i r t low high. new_row i r (omega (arith, low, first)) t;
      only = λ i r t is. only_new i r t is (below_or_not i (length rows));
    }
      where
        only_new : (i : ℕ) (r : InstRow) → slice_get (rows ++ fresh) i ≡ Some r → r.unit.0 ≡ length its → (i < length rows) ⊎ (length rows ≤ i) → (s.first ≤ i) × (i < s.first + s.count)
        only_new i r t is (inl b) = let c = old.there i r (old_row i r b t) in absurd (omega (arith, c, is))
        only_new i r t is (inr b) = let c = slice_get_within (rows ++ fresh) i r t in (omega (arith, b, first), omega (arith, c, long, first, count))

    at : (u : ℕ) (x : Span) → slice_get (its ++ s ∷ []) u ≡ Some x → (u < length its) ⊎ (length its ≤ u) → IsSpan (rows ++ fresh) u x.first x.count
    at u x e (inl b) = old_span u x (sym (appended_below its (s ∷ []) u b) ∙ e) b
    at u x e (inr b) = let p = one s x (u - length its) (sym (behind its (s ∷ []) u b) ∙ e) in
        let is : u ≡ length its = omega (arith, p.0, b) in
        subst (λ n. IsSpan (rows ++ fresh) n x.first x.count) (sym is) (subst (λ (y : Span). IsSpan (rows ++ fresh) (length its) y.first y.count) (sym p.1) new_span)
