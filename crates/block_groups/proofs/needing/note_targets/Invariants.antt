use Rattle.std.proofs.Common.{take, length}
use Rattle.block_groups.specs.Keys.{AreKeyed, target_of}
use Rattle.block_groups.proofs.needing.note_targets.Given as goal

abbrev pub invariant-loop-e : goal.invariant-loop-e
invariant-loop-e l = AreKeyed target_of (take l.e-index l.edges) (length l.initial.lists) l.lists
