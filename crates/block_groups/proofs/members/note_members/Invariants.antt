use Rattle.std.proofs.Common.{take, length}
use Rattle.block_groups.specs.Members.{AreMembers}
use Rattle.block_groups.proofs.members.note_members.Given as goal

abbrev pub invariant-loop-k : goal.invariant-loop-k
invariant-loop-k l = AreMembers (length l.g.blocks) (take l.k l.places) (take l.k l.own) l.lists
