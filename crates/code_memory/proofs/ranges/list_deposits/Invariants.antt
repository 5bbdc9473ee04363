-- The ranges so far, and the deposits of the placements that are left, are all deposits.
use Rattle.std.proofs.Common.{◌≡◌, ◌++◌}
use Rattle.std.specs.BTreeMap.{values}
use Rattle.code_memory.specs.Places.{deposits}
use Rattle.code_memory.proofs.ranges.list_deposits.Given as goal

abbrev pub invariant-loop-placement : goal.invariant-loop-placement
invariant-loop-placement l = l.segments.items ++ deposits l.placement-iterator ≡ deposits (values l.placed)
