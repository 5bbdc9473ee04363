use Rattle.std.proofs.Common.{◌≡◌, ◌++◌, drop, map}
use Rattle.session_model.specs.Plain.{placements}
use Rattle.session_plain.specs.Meant.{unit_row}
use Rattle.session_plain.proofs.placing.ranges.Given as goal

abbrev pub invariant-loop-x : goal.invariant-loop-x
invariant-loop-x g l =
    let seen = unit_row g.U.UnitKind.meaning in
    l.all.items ++ placements (map seen (drop l.x-index l.units)) ≡ placements (map seen l.units)
