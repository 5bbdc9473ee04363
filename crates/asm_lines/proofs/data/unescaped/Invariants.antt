use Rattle.std.proofs.Common.{◌≡◌, drop, false}
use Rattle.asm_lines.specs.Directives.{unescaped}
use Rattle.asm_lines.proofs.Items.{prefixed}
use Rattle.asm_lines.proofs.data.unescaped.Given as goal

-- the bytes so far and those of what is left are all
abbrev pub invariant-loop-i : goal.invariant-loop-i
invariant-loop-i l = unescaped false l.text ≡ prefixed l.bytes.items (unescaped l.escaped (drop l.i l.text))
