-- The next multiple of a number is the lowest.
use Rattle.std.proofs.Common.{◌≡◌, ◌≢◌, ⊎_elim, ℕ, true, false, ◌+◌, ◌-◌, ◌*◌, ◌/◌, ◌%◌, ◌<◌, ◌≤◌, suc, ap, sym, ◌∙◌, subst, arith}
use Rattle.std.specs.Prelude.{◌==◌}
use Rattle.std.specs.Int.{next_multiple_of}
use Rattle.std.proofs.Math.Dec.{leb}
use Rattle.std.proofs.Math.Nat.{mod_self, mod-eq_of_lt, mod-lt, mul-le-mul_left, mul-mod_left}
use Rattle.std.proofs.lemmas.Bool.Decides.{eqb_tells, leb_tells}

-- the base is the lowest multiple of the alignment that isn't below an address
pub record IsLowest (from align base : ℕ) : Type 0 where
  pub aligned : base % align ≡ 0
  pub above : from ≤ base
  pub lowest : (other : ℕ) → other % align ≡ 0 → from ≤ other → base ≤ other

-- of two multiples, one less than an alignment above the other is not above it
least : (align base other : ℕ) → 0 < align → base % align ≡ 0 → other % align ≡ 0 → base < other + align → base ≤ other
least align base other some aligned even near =
    let p = base / align in
    let q = other / align in
    ⊎_elim (λ (e : (leb p q ≡ true) × (p ≤ q)). omega (arith, mul-le-mul_left align e.1))
    (λ (e : (leb p q ≡ false) × (q < p)). let more : suc q ≤ p = omega (arith, e.1) in absurd (omega (arith, mul-le-mul_left align more)))
    (leb_tells p q)

lowest_by : (from align base : ℕ) → 0 < align → base % align ≡ 0 → from ≤ base → base < from + align → IsLowest from align base
lowest_by from align base some aligned above near = record {
  aligned = aligned;
  above = above;
  lowest = λ other even reaches. least align base other some aligned even (omega arith);
}

pub lowest_is : (from align : ℕ) → 0 < align → IsLowest from align (next_multiple_of from align)
lowest_is from align some =
    let r = from % align in
    let small : r < align = mod-lt from some in
    ⊎_elim (λ (e : ((r == 0) ≡ true) × (r ≡ 0)).
    let here : next_multiple_of from align ≡ from = ap (λ k. from + (align - k) % align) e.1 ∙ ap (λ k. from + k % align) (let z : align - 0 ≡ align = omega arith in z) ∙ ap (λ k. from + k) (mod_self align) ∙ (let z : from + 0 ≡ from = omega arith in z) in
    subst (IsLowest from align) (sym here) (lowest_by from align from some e.1 (omega arith) (omega arith)))
    (λ (e : ((r == 0) ≡ false) × (r ≢ 0)).
    let inside : align - r < align = omega (arith, e.1) in
    let here : next_multiple_of from align ≡ from + (align - r) = ap (λ k. from + k) (mod-eq_of_lt inside) in
    let whole : from + (align - r) ≡ suc (from / align) * align = omega (arith, small) in
    let even : (from + (align - r)) % align ≡ 0 = ap (λ k. k % align) whole ∙ mul-mod_left (suc (from / align)) align in
    subst (IsLowest from align) (sym here) (lowest_by from align (from + (align - r)) some even (omega arith) (omega (arith, e.1))))
    (eqb_tells r 0)
