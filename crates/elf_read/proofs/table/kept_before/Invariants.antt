use Rattle.std.proofs.Common.{◌≡◌, length, map}
use Rattle.elf_read.specs.Symbols.{numbers, kept_below}
use Rattle.elf_read.proofs.table.kept_before.Given as goal

abbrev pub invariant-loop-i : goal.invariant-loop-i
invariant-loop-i l = (l.before.items ≡ map (λ i. length (kept_below l.file i)) (numbers l.i)) × (l.kept ≡ length (kept_below l.file l.i))
