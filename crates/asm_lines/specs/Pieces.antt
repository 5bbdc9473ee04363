-- Operands: what commas part.
use Rattle.std.specs.Prelude.{ℕ, Bool, ◌==◌, List, [], ◌∷◌, map, Option, Some, None, option_and_then}
use Rattle.std.specs.List.{slice_split}
use Rattle.asm_lines.specs.Words.{trimmed}

abbrev pub is_comma : ℕ → Bool
is_comma b = b == 44

-- the operands, each without the blanks round it; a text without bytes has none
unfoldable pub pieces_of : List ℕ → List (List ℕ)
pieces_of [] = []
pieces_of (b ∷ bs) = map trimmed (slice_split is_comma (b ∷ bs))

-- the first operand, read by f, and what becomes of it and of the others
abbrev pub taking : {A B : Type 0} → (List ℕ → Option A) → List (List ℕ) → (A → List (List ℕ) → Option B) → Option B
taking f [] next = None
taking f (piece ∷ pieces) next = option_and_then (λ a. next a pieces) (f piece)

-- no operand is left
abbrev pub ending : {A : Type 0} → A → List (List ℕ) → Option A
ending a [] = Some a
ending a (piece ∷ pieces) = None
