-- What becomes of one unit in each step of its life.
use Rattle.session_model.specs.Plain.{UnitRow}
use Rattle.session_model.specs.Change.{started_unit, finishing_unit, placed_unit, resolved_unit, listed_unit, waiting_unit, linked_unit, done_unit, failed_unit, let_go_unit}
use Rattle.session_plain.specs.declared.units.Step.{Step}
use Rattle.session_plain.specs.declared.units.Step.TheVariants as step

abbrev pub stepped : Step → UnitRow → UnitRow
stepped step.List x = listed_unit x
stepped (step.Start s) x = started_unit s.0 x
stepped (step.Place base) x = placed_unit base x
stepped step.Resolve x = resolved_unit x
stepped (step.Wait k) x = waiting_unit k x
stepped step.Link x = linked_unit x
stepped (step.Finish s how) x = finishing_unit s.0 how x
stepped step.End x = done_unit x
stepped step.Fail x = failed_unit x
stepped (step.LetGo s) x = let_go_unit s.0 x
