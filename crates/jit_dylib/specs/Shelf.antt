-- All dylibs of a session, by number.
use Rattle.std.specs.Prelude.{◌≡◌, ℕ, List, [], slice_get}
use Rattle.std.specs.Option.{option_map_or}
use Rattle.session_model.specs.declared.rows.Dylib.{Dylib}
use Rattle.jit_dylib.specs.Rows.{Rows}

-- each with its name and link order, and the table of each
pub record Shelf : Type 0 where
  pub dylibs : List Dylib
  pub tables : List Rows

-- the table of a dylib; where there is no such dylib, one without rows
abbrev pub table_of : Shelf → ℕ → Rows
table_of s d = option_map_or (λ t. t) (slice_get s.tables d) []

-- no other table has changed, and no name and no link order
pub record ChangesOnlyTable (d : ℕ) (old new : Shelf) : Type 0 where
  pub dylibs : new.dylibs ≡ old.dylibs
  pub others : (e : ℕ) → (e ≡ d → ⊥) → slice_get new.tables e ≡ slice_get old.tables e
