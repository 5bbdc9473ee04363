-- What the vectors of a plain session stand for.
use Rattle.std.specs.Prelude.{◌≡◌, ℕ, ◌<◌, ◌^◌, true, List, length, map, slice_get, Some}
use Rattle.session_model.specs.Meaning.{Meaning}
use Rattle.session_model.specs.Plain.{Plain, UnitRow, GenRow, is_owned}
use Rattle.session_model.specs.declared.rows.InstRow.{InstRow}
use Rattle.session_plain.specs.declared.plain.PlainGenerator.{PlainGenerator}
use Rattle.session_plain.specs.declared.plain.PlainSession.{PlainSession}
use Rattle.session_plain.specs.declared.plain.PlainUnit.{PlainUnit}

abbrev pub unit_row : {U : Type 0} → (U → Meaning) → PlainUnit U → UnitRow
unit_row means x = record { meaning = means x.unit; tracker = x.tracker; live = x.live; phase = x.phase; seat = x.seat; base = x.base; query = x.query; bound = x.bound }

abbrev pub gen_row : {U : Type 0} → (U → Meaning) → PlainGenerator U → GenRow
gen_row means x = record { dylib = x.dylib; tracker = x.tracker; meaning = means x.unit; spent = x.spent }

abbrev pub meant : {U : Type 0} → (U → Meaning) → PlainSession U → Plain
meant means s = record {
  entries = s.entries;
  dylibs = s.dylibs.items;
  trackers = s.trackers.items;
  rows = s.rows.items;
  units = map (unit_row means) s.units.items;
  generators = map (gen_row means) s.generators.items;
  queries = s.queries.items;
  jobs = s.jobs.items;
}

-- its things can be numbered
pub record IsSmall {U : Type 0} (s : PlainSession U) : Type 0 where
  pub rows : length s.rows.items < 2 ^ 32
  pub units : length s.units.items < 2 ^ 32
  pub generators : length s.generators.items < 2 ^ 32
  pub dylibs : length s.dylibs.items < 2 ^ 32
  pub trackers : length s.trackers.items < 2 ^ 32
  pub queries : length s.queries.items < 2 ^ 32

-- a unit has a flag for each name that it offers
abbrev pub LiveFit : {U : Type 0} → (U → Meaning) → List (PlainUnit U) → Type 0
LiveFit means units = (k : ℕ) (x : PlainUnit _) → slice_get units k ≡ Some x → length x.live ≡ length (means x.unit).offers

-- each instance is of a name that its unit offers
abbrev pub OffersFit : {U : Type 0} → (U → Meaning) → List (PlainUnit U) → List InstRow → Type 0
OffersFit means units rows = (u i : ℕ) (x : PlainUnit _) (r : InstRow) → slice_get units u ≡ Some x → slice_get rows i ≡ Some r → is_owned u r ≡ true → r.offer < length (means x.unit).offers
