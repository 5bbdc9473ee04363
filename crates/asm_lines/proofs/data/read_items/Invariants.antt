use Rattle.std.proofs.Common.{◌≡◌, length}
use Rattle.asm_lines.specs.Directives.{items_of}
use Rattle.asm_lines.proofs.Items.{prefixed}
use Rattle.asm_lines.proofs.data.read_items.Given as goal

-- the items so far and those of what is left are all
abbrev pub invariant-loop-piece : goal.invariant-loop-piece
invariant-loop-piece l = items_of l.width l.fn.pieces ≡ prefixed l.items.items (items_of l.width l.pieces)

abbrev pub decreases-loop-piece : goal.decreases-loop-piece
decreases-loop-piece l = length l.pieces
