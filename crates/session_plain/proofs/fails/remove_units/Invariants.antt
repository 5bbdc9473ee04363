use Rattle.std.proofs.Common.{◌≡◌, ◌++◌, take, drop, map}
use Rattle.session_plain.specs.Meant.{unit_row}
use Rattle.session_model.specs.Change.{removed_unit}
use Rattle.session_plain.proofs.fails.remove_units.Given as goal

abbrev pub invariant-loop-x : goal.invariant-loop-x
invariant-loop-x g l =
    let seen = unit_row g.U.UnitKind.meaning in
    map seen l.units ≡ map (removed_unit l.t.0) (map seen (take l.x-index l.initial.units)) ++ map seen (drop l.x-index l.initial.units)
