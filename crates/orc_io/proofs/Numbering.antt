-- One more notifier behind numbered ones.
use Rattle.std.proofs.Common.{arith, ◌≡◌, ℕ, zero, suc, ◌+◌, List, [], ◌∷◌, ◌++◌, length, slice_get, Some, sym, ap, ◌∙◌}
use Rattle.std.proofs.lemmas.Option.{none-some, same_Some}
use Rattle.orc_io.specs.Numbers.{AreNumberedFrom}

pub numbered_more : {N : Type 0} (number : N → ℕ) (first : ℕ) (notes : List N) (n : N) → AreNumberedFrom number first notes → number n ≡ first + length notes → AreNumberedFrom number first (notes ++ n ∷ [])
numbered_more number first [] n are is zero m there = ap number (sym (same_Some n m there)) ∙ is
numbered_more number first [] n are is (suc k) m there = absurd (none-some m there)
numbered_more number first (x ∷ xs) n are is zero m there = are zero m there
numbered_more {N} number first (x ∷ xs) n are is (suc k) m there =
    let rest : AreNumberedFrom {N = N} number (suc first) xs = λ j y at. omega (arith, are (suc j) y at) in
    omega (arith, numbered_more number (suc first) xs n rest (omega (arith, is)) k m there)
