-- What a name feeds a hasher.
use Rattle.std.specs.Prelude.{◌≡◌, ℕ, List, [], ◌∷◌, IsTrue}
use Rattle.std.specs.Str.{bytes_eq}
use Rattle.std.proofs.Common.{ap}
use Rattle.std.proofs.lemmas.Slice.Eq.{bytes_eq-Decides}

-- equal names are fed alike
pub feeds_alike : (xs ys : List ℕ) → IsTrue (bytes_eq xs ys) → xs ∷ [] ≡ ys ∷ []
feeds_alike xs ys h = ap (λ (zs : List ℕ). zs ∷ []) ((bytes_eq-Decides xs ys).0 h)
