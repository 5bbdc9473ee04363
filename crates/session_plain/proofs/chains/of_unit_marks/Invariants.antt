use Rattle.std.proofs.Common.{◌≡◌, map, take}
use Rattle.session_plain.specs.Chains.{of_unit}
use Rattle.session_plain.proofs.chains.of_unit_marks.Given as goal

abbrev pub invariant-loop-row : goal.invariant-loop-row
invariant-loop-row l = l.marks.items ≡ map (of_unit l.u.0) (take l.row-index l.rows)
