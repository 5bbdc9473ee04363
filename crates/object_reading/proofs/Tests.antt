-- What checks answer where nothing is refused, and the only number that is found.
use Rattle.std.proofs.Common.{◌≡◌, ℕ, zero, suc, ◌<◌, Bool, true, false, Option, Some, None, refl, arith}
use Rattle.std.proofs.lemmas.Bool.{false_from_ne_true}
use Rattle.elf_read.specs.Choice.{when, ◌otherwise◌, first_below}
use Rattle.elf_read.proofs.Firsts.{first_below-found}
use Rattle.elf_read.proofs.Tables.{when-true, when-false}

pub neither : {A : Type 0} (a b : Option A) → a ≡ None → b ≡ None → (a otherwise b) ≡ None
neither None b e e' = e'
neither (Some x) b e e' = absurd cc

pub none_below : {A : Type 0} (n : ℕ) (f : ℕ → Option A) → ((k : ℕ) → k < n → f k ≡ None) → first_below n f ≡ None
unfolding first_below
none_below zero f none = refl
none_below (suc n) f none = neither (first_below n f) (f n) (none_below n f (λ k lt. none k (omega arith))) (none n (omega arith))

-- the only number that passes is the first
pub only_one : (n x : ℕ) (t : ℕ → Bool) → x < n → t x ≡ true → ((k : ℕ) → k < n → t k ≡ true → k ≡ x) → first_below n (λ k. when (t k) k) ≡ Some x
only_one n x t lt here only =
    first_below-found n x (λ k. when (t k) k) x
    (none_below x (λ k. when (t k) k) (λ k below. when-false (t k) k (false_from_ne_true (t k) (λ passes. let e : k ≡ x = only k (omega arith) passes in omega arith))))
    (when-true (t x) x here) lt

pub no_one : (n : ℕ) (t : ℕ → Bool) → ((k : ℕ) → k < n → t k ≡ false) → first_below n (λ k. when (t k) k) ≡ None
no_one n t none = none_below n (λ k. when (t k) k) (λ k lt. when-false (t k) k (none k lt))
