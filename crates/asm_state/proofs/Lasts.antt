-- A name that was put at the end is there.
use Rattle.std.proofs.Common.{◌≡◌, ℕ, Bool, true, false, ◌||◌, List, [], ◌∷◌, ◌++◌, refl, ap, ◌∙◌}
use Rattle.std.specs.Str.{bytes_eq}
use Rattle.std.specs.Cmp.Lexicographic.{nat_list_eq_equiv}
use Rattle.asm_state.specs.Names.{has}

or_true : (b : Bool) → b || true ≡ true
or_true true = refl
or_true false = refl

pub has_last : (name : List ℕ) (names : List (List ℕ)) → has name (names ++ name ∷ []) ≡ true
has_last name [] = rw (nat_list_eq_equiv.refl name) refl
has_last name (n ∷ names) = ap (λ (b : Bool). bytes_eq name n || b) (has_last name names) ∙ or_true (bytes_eq name n)
