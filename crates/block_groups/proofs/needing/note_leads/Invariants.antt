use Rattle.std.proofs.Common.{take, length}
use Rattle.block_groups.specs.Groups.{leads_to}
use Rattle.block_groups.specs.Keys.{AreKeyed}
use Rattle.block_groups.proofs.needing.note_leads.Given as goal

abbrev pub invariant-loop-e : goal.invariant-loop-e
invariant-loop-e l = AreKeyed (leads_to l.g l.live) (take l.e-index l.g.edges) (length l.g.blocks) l.lists
