-- The ranges so far, and the deposits of the entries that are left, are those wanted.
use Rattle.std.proofs.Common.{◌≡◌, ◌++◌}
use Rattle.std.specs.Map.{values_of}
use Rattle.code_memory.specs.Kept.{placements_from}
use Rattle.code_memory.specs.Places.{deposits}
use Rattle.code_memory.proofs.ranges.push_from.Given as goal

abbrev pub invariant-loop-placement : goal.invariant-loop-placement
invariant-loop-placement l = l.segments.items ++ deposits (values_of l.placement-iterator) ≡ l.initial.segments.items ++ deposits (placements_from l.base l.placed.entries)
