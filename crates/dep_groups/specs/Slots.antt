-- A number or none, as one number.
use Rattle.std.specs.Prelude.{◌≡◌, ℕ, ◌-◌, ◌^◌, ◌==◌, true, false, if◌then◌else◌, cond, Option, Some, None}
use Rattle.std.proofs.Common.{◌∙◌, ◌≢◌, ⊎_elim, sym, ap}
use Rattle.std.proofs.lemmas.Bool.Decides.{eqb_tells}

-- the highest number of 32 bits stands for none
abbrev pub content_of : ℕ → Option ℕ
content_of n = if n == 2 ^ 32 - 1 then None else Some n

abbrev pub number_of : Option ℕ → ℕ
number_of None = 2 ^ 32 - 1
number_of (Some n) = n

pub number_same : (n : ℕ) → number_of (content_of n) ≡ n
number_same n = ⊎_elim
    (λ (e : ((n == 2 ^ 32 - 1) ≡ true) × (n ≡ 2 ^ 32 - 1)). ap (λ b. number_of (cond b None (Some n))) e.0 ∙ sym e.1)
    (λ (e : ((n == 2 ^ 32 - 1) ≡ false) × (n ≢ 2 ^ 32 - 1)). ap (λ b. number_of (cond b None (Some n))) e.0)
    (eqb_tells n (2 ^ 32 - 1))
