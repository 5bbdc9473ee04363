-- The parts of a session, and the plain session that they are.
use Rattle.std.specs.Prelude.{◌≡◌, ℕ, ◌<◌, Bool, ◌&&◌, not, is_some, List, length, slice_get, Some, if◌then◌else◌}
use Rattle.orc_ids.specs.declared.ids.UnitId.{UnitId}
use Rattle.code_memory.specs.declared.placement.Placement.{Placement}
use Rattle.mat_unit.specs.declared.unit.Unit.{Unit as OneUnit}
use Rattle.session_model.specs.Meaning.{Meaning}
use Rattle.session_model.specs.Plain.{Plain}
use Rattle.session_model.specs.declared.rows.InstRow.{InstRow}
use Rattle.session_parts.specs.declared.parts.Parts.{Parts}
use Rattle.session_parts.specs.Tied.{Kept, IsTied}

-- what they keep, the book of queries apart
abbrev pub kept_of : {U N : Type 0} → Parts U N → Kept U
kept_of p = record { shelf = p.dylibs; rows = p.graph.rows; units = p.units.units; jobs = p.units.jobs; generators = p.generators.rows; owners = p.trackers; memory = p.space }

-- it is the session's, and the instances are of as many units
pub record AreParts {U N : Type 0} (means : U → Meaning) (p : Parts U N) (m : Plain) : Type 0 where
  pub kept : IsTied means (kept_of p) m
  pub spans : p.graph.units ≡ length m.units

-- the unit has a range of code memory: an alias has a base without one
abbrev pub is_ranged : {U : Type 0} → (U → Meaning) → OneUnit U → Bool
is_ranged means x = is_some x.base && not (is_some (means x.unit).source)

-- what is done to code memory where the unit has a range, and else nothing
abbrev pub IsDoneTo : {U : Type 0} → (U → Meaning) → List (OneUnit U) → UnitId → List Placement → List Placement → List Placement → Type 0
IsDoneTo {U} means units u old done new = (x : OneUnit U) → slice_get units u.0 ≡ Some x → new ≡ (if is_ranged means x then done else old)

-- each instance is of a dylib that is there
abbrev pub HaveDylibs : Plain → Type 0
HaveDylibs m = (i : ℕ) (r : InstRow) → slice_get m.rows i ≡ Some r → r.dylib.0 < length m.dylibs
