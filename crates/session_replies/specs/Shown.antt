-- The session that matching sees: its dylibs, instances and generators, whatever their trackers are.
use Rattle.std.specs.Prelude.{ℕ, ◌&&◌, List, length, map, nat_lt}
use Rattle.generators.specs.declared.generator.Generator.{Generator}
use Rattle.generators.specs.Rows.{gen_row}
use Rattle.jit_dylib.specs.Shelf.{Shelf}
use Rattle.session_model.specs.Meaning.{Meaning}
use Rattle.session_model.specs.Plain.{Plain, empty}
use Rattle.session_model.specs.declared.rows.InstRow.{InstRow}
use Rattle.session_parts.specs.declared.parts.Parts.{Parts}

-- what of the parts matching looks at
pub record Sight (U : Type 0) : Type 0 where
  pub shelf : Shelf
  pub rows : List InstRow
  pub generators : List (Generator U)

abbrev pub sight_of : {U N : Type 0} → Parts U N → Sight U
sight_of p = record { shelf = p.dylibs; rows = p.graph.rows; generators = p.generators.rows }

-- an instance of a dylib that isn't there isn't seen
abbrev pub seen_row : ℕ → InstRow → InstRow
seen_row count r = record r { present = r.present && nat_lt r.dylib.0 count }

abbrev pub shown : {U : Type 0} → (U → Meaning) → Sight U → Plain
shown means s = record empty { dylibs = s.shelf.dylibs; rows = map (seen_row (length s.shelf.dylibs)) s.rows; generators = map (gen_row means 0) s.generators }
