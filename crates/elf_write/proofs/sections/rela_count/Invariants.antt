use Rattle.std.proofs.Common.{◌≡◌, ◌+◌, ◌≤◌, drop}
use Rattle.elf_write.specs.Files.{rela_count}
use Rattle.elf_write.proofs.sections.rela_count.Given as goal

abbrev pub invariant-loop-section : goal.invariant-loop-section
invariant-loop-section l = (l.count + rela_count (drop l.section-index l.sections) ≡ rela_count l.sections) × (l.count ≤ l.section-index)
