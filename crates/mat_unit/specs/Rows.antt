-- The row of a unit in the plain session.
use Rattle.std.specs.Prelude.{ℕ}
use Rattle.session_model.specs.Meaning.{Meaning}
use Rattle.session_model.specs.Plain.{UnitRow}
use Rattle.mat_unit.specs.declared.unit.Unit.{Unit as OneUnit}

-- the unit's row, by what units mean and the number of its tracker
abbrev pub unit_row : {U : Type 0} → (U → Meaning) → ℕ → OneUnit U → UnitRow
unit_row means tracker x = record {
  meaning = means x.unit;
  tracker = tracker;
  live = x.live;
  phase = x.phase;
  seat = x.seat;
  base = x.base;
  query = x.query;
  bound = x.bound;
}
