use Rattle.std.proofs.Common.{◌≡◌, map}
use Rattle.elf_read.specs.Object.{section_in}
use Rattle.elf_read.specs.Symbols.{kept_below}
use Rattle.elf_read.proofs.build.build_sections.Given as goal

abbrev pub invariant-loop-i : goal.invariant-loop-i
invariant-loop-i l = l.items.items ≡ map (section_in l.table) (kept_below l.table l.i)
