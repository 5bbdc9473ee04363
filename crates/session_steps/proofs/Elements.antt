-- Elements of lists, there or not.
use Rattle.std.proofs.Common.{◌≡◌, Option, Some, None, option_map, refl}

pub unmapped : {X : Type 0} (o : Option X) → o ≡ option_map (λ x. x) o
unmapped None = refl
unmapped (Some x) = refl
