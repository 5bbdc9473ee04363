use Rattle.std.proofs.Common.{◌≡◌, length}
use Rattle.asm_text.specs.Texts.{read_from, lines_of}
use Rattle.asm_text.proofs.assembler.Assembler.read_lines.Given as goal

-- the lines that are left, read on from what is known, give what all lines give
abbrev pub invariant-loop-line : goal.invariant-loop-line
invariant-loop-line l = read_from l.number l.self l.lines ≡ read_from 0 l.fn.self (lines_of l.text)

abbrev pub decreases-loop-line : goal.decreases-loop-line
decreases-loop-line l = length l.lines
