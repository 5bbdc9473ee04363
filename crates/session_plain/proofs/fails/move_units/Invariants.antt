use Rattle.std.proofs.Common.{◌≡◌, ◌++◌, take, drop, map}
use Rattle.session_plain.specs.Meant.{unit_row}
use Rattle.session_model.specs.Change.{moved_unit}
use Rattle.session_plain.proofs.fails.move_units.Given as goal

abbrev pub invariant-loop-x : goal.invariant-loop-x
invariant-loop-x g l =
    let seen = unit_row g.U.UnitKind.meaning in
    map seen l.units ≡ map (moved_unit l.t.0 l.to.0) (map seen (take l.x-index l.initial.units)) ++ map seen (drop l.x-index l.initial.units)
