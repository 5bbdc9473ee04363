-- The first row that passes a test.
use Rattle.std.proofs.Common.{◌≡◌, ℕ, zero, suc, ◌+◌, Bool, true, false, List, [], ◌∷◌, slice_get, Some, None, arith, refl, ap, sym, ◌∙◌}
use Rattle.std.specs.Bool.{if◌then◌else◌}
use Rattle.std.proofs.lemmas.Bool.{both_ways, cond_both}
use Rattle.std.proofs.lemmas.Option.{none-some, same_Some}
use Rattle.session_model.specs.Match.{first_row}
use Rattle.session_model.specs.declared.rows.InstRow.{InstRow}
use Rattle.session_model.specs.declared.rows.Row.{Row}

-- it is there, and passes
pub row_passes : (test : InstRow → Bool) (k : ℕ) (rows : List InstRow) (r : Row) → first_row test k rows ≡ Some r → (n : ℕ) × (r.inst.0 ≡ k + n) × (x : InstRow) × (slice_get rows n ≡ Some x) × (test x ≡ true)
row_passes test k [] r e = absurd (none-some r e)
row_passes test k (y ∷ ys) r e = cond_both (test y) (Some (record { inst = record { 0 = k }; flags = y.flags })) (first_row test (k + 1) ys) (λ o. o ≡ Some r → (n : ℕ) × (r.inst.0 ≡ k + n) × (x : InstRow) × (slice_get (y ∷ ys) n ≡ Some x) × (test x ≡ true))
    (λ b h. let is : record { inst = record { 0 = k }; flags = y.flags } ≡ r = same_Some (record { inst = record { 0 = k }; flags = y.flags }) r h in (0, sym (ap (λ (z : Row). z.inst.0) is) ∙ omega arith, y, refl, b))
    (λ b h. later (row_passes test (k + 1) ys r h)) e
  where
    later : (n : ℕ) × (r.inst.0 ≡ k + 1 + n) × (x : InstRow) × (slice_get ys n ≡ Some x) × (test x ≡ true) → (n : ℕ) × (r.inst.0 ≡ k + n) × (x : InstRow) × (slice_get (y ∷ ys) n ≡ Some x) × (test x ≡ true)
    later p = (suc p.0, (omega (arith, p.1)), p.2, p.3, p.4)

-- where a row passes there is a first one
pub first_found : (test : InstRow → Bool) (k : ℕ) (rows : List InstRow) (i : ℕ) (r : InstRow) → slice_get rows i ≡ Some r → test r ≡ true → (x : Row) × (first_row test k rows ≡ Some x)
first_found test k [] i r e t = absurd (none-some r e)
first_found test k (q ∷ qs) i r e t = split (test q) refl i e (λ n f. first_found test (k + 1) qs n r f t)
  where
    split : (b : Bool) → test q ≡ b → (i : ℕ) → slice_get (q ∷ qs) i ≡ Some r → ((n : ℕ) → slice_get qs n ≡ Some r → (x : Row) × (first_row test (k + 1) qs ≡ Some x)) → (x : Row) × ((if b then Some (record { inst = record { 0 = k }; flags = q.flags }) else first_row test (k + 1) qs) ≡ Some x)
    split true is i e later = (record { inst = record { 0 = k }; flags = q.flags }, refl)
    split false is zero e later = absurd (both_ways (test q) is (ap test (same_Some q r e) ∙ t))
    split false is (suc n) e later = later n e

-- and where none passes there is none
pub no_first : (test : InstRow → Bool) (k : ℕ) (rows : List InstRow) → ((i : ℕ) (r : InstRow) → slice_get rows i ≡ Some r → test r ≡ false) → first_row test k rows ≡ None
no_first test k [] h = refl
no_first test k (r ∷ rs) h = ap (λ b. if b then Some (record { inst = record { 0 = k }; flags = r.flags }) else first_row test (k + 1) rs) (h 0 r refl) ∙ no_first test (k + 1) rs (λ i. h (suc i))
