-- What a test of two numbers, and a comparison of them, comes to.
use Rattle.std.proofs.Common.{◌≡◌, ◌≢◌, ◌⊎◌, ⊎_elim, inl, inr, ℕ, true, false, ◌<◌, ◌≤◌, suc, arith}
use Rattle.std.specs.Prelude.{nat_lt, ◌==◌}
use Rattle.std.specs.Ordering.{nat_cmp}
use Rattle.std.specs.declared.cmp.Ordering.TheVariants.{Less, Equal, Greater}
use Rattle.std.proofs.Math.Dec.{leb}
use Rattle.std.proofs.lemmas.Bool.Decides.{leb_tells, eqb_tells, nat_tests}

pub below_is : (a b : ℕ) → a < b → nat_lt a b ≡ true
below_is a b h =
    ⊎_elim (λ (e : (leb (suc a) b ≡ true) × (suc a ≤ b)). e.0) (λ (e : (leb (suc a) b ≡ false) × (b < suc a)). absurd (omega (arith, e.1))) (leb_tells (suc a) b)

pub not_below : (a b : ℕ) → b ≤ a → nat_lt a b ≡ false
not_below a b h =
    ⊎_elim (λ (e : (leb (suc a) b ≡ true) × (suc a ≤ b)). absurd (omega (arith, e.1))) (λ (e : (leb (suc a) b ≡ false) × (b < suc a)). e.0) (leb_tells (suc a) b)

pub less_is : (a b : ℕ) → a < b → nat_cmp a b ≡ Less
less_is a b h = grind (arith, nat_tests)

pub greater_is : (a b : ℕ) → b < a → nat_cmp a b ≡ Greater
greater_is a b h = grind (arith, nat_tests)

pub equal_is : (a : ℕ) → nat_cmp a a ≡ Equal
equal_is a = grind (arith, nat_tests)

pub below_or : (a b : ℕ) → (a < b) ⊎ (b ≤ a)
below_or a b =
    ⊎_elim (λ (e : (leb (suc a) b ≡ true) × (suc a ≤ b)). inl (let less : a < b = omega (arith, e.1) in less))
    (λ (e : (leb (suc a) b ≡ false) × (b < suc a)). inr (let over : b ≤ a = omega (arith, e.1) in over)) (leb_tells (suc a) b)

pub apart_is : (a b : ℕ) → a ≢ b → (a == b) ≡ false
apart_is a b h =
    ⊎_elim (λ (e : ((a == b) ≡ true) × (a ≡ b)). absurd (h e.1)) (λ (e : ((a == b) ≡ false) × (a ≢ b)). e.0) (eqb_tells a b)
