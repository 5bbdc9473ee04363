-- An element of a list, and what changes it.
use Rattle.std.proofs.Common.{◌≡◌, ◌<◌, ℕ, zero, suc, List, [], ◌∷◌, get_or, slice_get, length, refl, ◌∙◌, arith}
use Rattle.std.specs.Option.{option_map_or}

-- what is read there
read_at : {X : Type 0} (xs : List X) (k : ℕ) (d e : X) → k < length xs → get_or xs k d ≡ option_map_or (λ x. x) (slice_get xs k) e
read_at [] k d e h = absurd (omega arith)
read_at (x ∷ xs) zero d e h = refl
read_at (x ∷ xs) (suc k) d e h = read_at xs k d e (omega arith)

pub read_there : {X : Type 0} (xs : List X) (k : ℕ) (x d e : X) → k < length xs → x ≡ get_or xs k d → x ≡ option_map_or (λ x. x) (slice_get xs k) e
read_there xs k x d e h is = is ∙ read_at xs k d e h
