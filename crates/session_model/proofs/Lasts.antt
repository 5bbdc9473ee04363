-- The last element of a list, and those before it.
use Rattle.std.proofs.Common.{◌≡◌, List, [], ◌∷◌, ◌++◌, refl, ap}

pub split_end : {X : Type 0} (x : X) (xs : List X) → (before : List X) × (last : X) × (x ∷ xs ≡ before ++ last ∷ [])
split_end x [] = ([], x, refl)
split_end x (y ∷ ys) = let r = split_end y ys in (x ∷ r.0, r.1, ap (λ l. x ∷ l) r.2)
