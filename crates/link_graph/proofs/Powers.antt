-- Powers of two, one after another.
use Rattle.std.proofs.Common.{◌≡◌, ℕ, zero, suc, ◌+◌, ◌-◌, ◌*◌, ◌^◌, ◌<◌, ◌≤◌, Bool, cond, nat_lt, refl, ap, ◌∙◌, inl, inr, le-ltb, lt-ltb, arith}
use Rattle.std.proofs.lemmas.Bool.{cases_lt}
use Rattle.std.proofs.Math.Nat.{pow-le-pow_right}
use Rattle.link_graph.specs.Padding.{power_above, boundary}

power_more : (k p a : ℕ) → power_above (suc k) p a ≡ cond (nat_lt a p) p (power_above k (2 * p) a)
unfolding power_above
power_more k p a = refl

power_step : (n p a : ℕ) → n < 64 → power_above (64 - n) p a ≡ cond (nat_lt a p) p (power_above (64 - (n + 1)) (2 * p) a)
power_step n p a h = let left : 64 - n ≡ suc (64 - (n + 1)) = omega arith in ap (λ k. power_above k p a) left ∙ power_more (64 - (n + 1)) p a

-- a power that is greater is the answer
pub power_here : (n p a : ℕ) → n < 64 → a < p → power_above (64 - n) p a ≡ p
power_here n p a h lt = power_step n p a h ∙ ap (λ (b : Bool). cond b p (power_above (64 - (n + 1)) (2 * p) a)) (lt-ltb a p lt)

pub power_later : (n p a : ℕ) → n < 64 → p ≤ a → power_above (64 - n) p a ≡ power_above (64 - (n + 1)) (2 * p) a
power_later n p a h le = power_step n p a h ∙ ap (λ (b : Bool). cond b p (power_above (64 - (n + 1)) (2 * p) a)) (le-ltb a p le)

pub power_last : (n p a : ℕ) → 64 ≤ n → power_above (64 - n) p a ≡ p
unfolding power_above
power_last n p a h = let none : 64 - n ≡ 0 = omega arith in ap (λ k. power_above k p a) none

-- it is a power of two, and no more than twice what it is greater than
pub record IsPower (a p : ℕ) : Type 0 where
  pub exponent : ℕ
  pub is : p ≡ 2 ^ exponent
  pub near : p ≤ 2 * a + 1

pub power_from : (k j p a : ℕ) → p ≡ 2 ^ j → p ≤ 2 * a + 1 → IsPower a (power_above k p a)
unfolding power_above
power_from zero j p a is near = record { exponent = j; is = is; near = near }
power_from (suc k) j p a is near = elim (cases_lt a p) [
  | inl here ↦ rw (lt-ltb a p here) (record { exponent = j; is = is; near = near })
  | inr later ↦ rw (le-ltb a p later) (power_from k (suc j) (2 * p) a (ap (λ (n : ℕ). 2 * n) is ∙ omega arith) (omega arith))
]

pub boundary_power : (a : ℕ) → IsPower a (boundary a)
boundary_power a = power_from 64 0 1 a refl (omega arith)

-- a power of two below another has a lesser exponent
pub exponent_below : (j k p : ℕ) → p ≡ 2 ^ j → p < 2 ^ suc k → j ≤ k
exponent_below j k p is lt = elim (cases_lt k j) [
  | inl above ↦ (let more : 2 ^ suc k ≤ 2 ^ j = pow-le-pow_right {n = 2} (omega arith) {i = suc k} {j = j} above in absurd (omega arith))
  | inr le ↦ le
]

-- the power over a number of 63 bits is one of 64
pub boundary_small : (a : ℕ) → a < 2 ^ 63 → boundary a ≤ 2 ^ 63
boundary_small a lt =
    let power = boundary_power a in
    let near = power.near in
    let is = power.is in
    let few : power.exponent ≤ 63 = exponent_below power.exponent 63 (boundary a) power.is (omega arith) in
    let le : 2 ^ power.exponent ≤ 2 ^ 63 = pow-le-pow_right {n = 2} (omega arith) few in
    omega (arith, le, is)
