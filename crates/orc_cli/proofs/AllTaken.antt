-- A list is the first elements of itself.
use Rattle.std.proofs.Common.{◌≡◌, ℕ, List, length, take, sym, ◌∙◌}
use Rattle.std.proofs.Math.Seq.{take-length}

pub all_taken : {A : Type 0} (xs ys : List A) → xs ≡ ys → (n : ℕ) × (xs ≡ take n ys)
all_taken xs ys e = (length ys, e ∙ sym (take-length ys))
