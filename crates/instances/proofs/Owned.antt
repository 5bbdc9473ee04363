-- The instances of a unit, from where they stand.
use Rattle.std.proofs.Common.{◌≡◌, ℕ, zero, suc, ◌+◌, ◌<◌, ◌≤◌, Bool, true, false, ◌==◌, List, [], ◌∷◌, ◌++◌, drop, slice_get, Some, refl, ap, sym, ◌∙◌, arith, append_assoc}
use Rattle.std.specs.Bool.{if◌then◌else◌}
use Rattle.std.proofs.lemmas.Bool.{and_right, false_from_ne_true, eqb-true}
use Rattle.std.proofs.lemmas.Option.{none-some}
use Rattle.list_laws.proofs.Lists.{drop_some}
use Rattle.orc_ids.specs.declared.ids.InstId.{InstId}
use Rattle.session_model.specs.Plain.{is_owned, own_rows}
use Rattle.session_model.specs.declared.rows.InstRow.{InstRow}
use Rattle.instances.specs.Spans.{IsSpan}

pub own_none : (u k : ℕ) (rows : List InstRow) → ((i : ℕ) (r : InstRow) → slice_get rows i ≡ Some r → is_owned u r ≡ false) → own_rows u k rows ≡ []
own_none u k [] h = refl
own_none u k (r ∷ rs) h = ap (λ b. if b then record { 0 = k } ∷ own_rows u (k + 1) rs else own_rows u (k + 1) rs) (h 0 r refl) ∙ own_none u (k + 1) rs (λ i. h (suc i))

own_skipped : (u k n m : ℕ) (rows : List InstRow) → m ≡ k + n → ((i : ℕ) (r : InstRow) → i < n → slice_get rows i ≡ Some r → is_owned u r ≡ false) → own_rows u m (drop n rows) ≡ own_rows u k rows
own_skipped u k zero m rows e h = ap (λ j. own_rows u j rows) (omega (arith, e))
own_skipped u k (suc n) m [] e h = refl
own_skipped u k (suc n) m (r ∷ rs) e h =
    own_skipped u (k + 1) n m rs (omega (arith, e)) (λ i q b. h (suc i) q (omega (arith, b)))
    ∙ sym (ap (λ b. if b then record { 0 = k } ∷ own_rows u (k + 1) rs else own_rows u (k + 1) rs) (h 0 r (omega arith) refl))

-- only the instances of the span are of the unit
not_owned : (rows : List InstRow) (u first count i : ℕ) (r : InstRow) → IsSpan rows u first count → slice_get rows i ≡ Some r → ((first ≤ i) × (i < first + count) → ⊥) → is_owned u r ≡ false
not_owned rows u first count i r s t n = and_right r.present (r.unit.0 == u) (false_from_ne_true (r.unit.0 == u) (λ e. n (s.only i r t (eqb-true r.unit.0 u e))))

pub own_from : (rows : List InstRow) (u first count : ℕ) → IsSpan rows u first count → own_rows u first (drop first rows) ≡ own_rows u 0 rows
own_from rows u first count s = own_skipped u 0 first first rows (omega arith) (λ i r b t. not_owned rows u first count i r s t (λ p. absurd (omega (arith, b, p.0))))

dropped_there : {X : Type 0} (n : ℕ) (xs : List X) (i : ℕ) (x : X) → slice_get (drop n xs) i ≡ Some x → slice_get xs (n + i) ≡ Some x
dropped_there zero xs i x e = ap (slice_get xs) (omega arith) ∙ e
dropped_there (suc n) [] i x e = absurd (none-some x e)
dropped_there (suc n) (y ∷ ys) i x e = shifted (suc n + i) (omega arith) (dropped_there n ys i x e)
  where
    shifted : (k : ℕ) → k ≡ suc (n + i) → slice_get ys (n + i) ≡ Some x → slice_get (y ∷ ys) k ≡ Some x
    shifted k e h = ap (slice_get (y ∷ ys)) e ∙ h

pub own_to : (rows : List InstRow) (u first count k : ℕ) → IsSpan rows u first count → first + count ≤ k → own_rows u k (drop k rows) ≡ []
own_to rows u first count k s b = own_none u k (drop k rows) (λ i r t. not_owned rows u first count (k + i) r s (dropped_there k rows i r t) (λ p. absurd (omega (arith, b, p.1))))

pub own_more : (rows : List InstRow) (u k : ℕ) (r : InstRow) (own new : List InstId) → slice_get rows k ≡ Some r → own ++ own_rows u k (drop k rows) ≡ own_rows u 0 rows → new ≡ (if is_owned u r then own ++ record { 0 = k } ∷ [] else own) → new ++ own_rows u (k + 1) (drop (k + 1) rows) ≡ own_rows u 0 rows
own_more rows u k r own new t so_far is = ap (λ xs. xs ++ own_rows u (k + 1) (drop (k + 1) rows)) is ∙ by_test (is_owned u r) ∙ ap (λ xs. own ++ own_rows u k xs) (sym (drop_some rows k r t)) ∙ so_far
  where
    by_test : (b : Bool) → (if b then own ++ record { 0 = k } ∷ [] else own) ++ own_rows u (k + 1) (drop (k + 1) rows) ≡ own ++ (if b then record { 0 = k } ∷ own_rows u (k + 1) (drop (k + 1) rows) else own_rows u (k + 1) (drop (k + 1) rows))
    by_test true = append_assoc own (record { 0 = k } ∷ []) (own_rows u (k + 1) (drop (k + 1) rows))
    by_test false = refl
