use Rattle.std.proofs.Common.{◌≡◌, ◌+◌, drop}
use Rattle.asm_lines.specs.declared.quotes.Quote.TheVariants.{Outside}
use Rattle.asm_lines.specs.Words.{outside_len}
use Rattle.asm_lines.proofs.quotes.bytes_before.Given as goal

-- what was passed and what is left make the whole
abbrev pub invariant-loop-i : goal.invariant-loop-i
invariant-loop-i l = outside_len l.wanted Outside l.text ≡ l.i + outside_len l.wanted l.quote (drop l.i l.text)
