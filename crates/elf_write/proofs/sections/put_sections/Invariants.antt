use Rattle.std.proofs.Common.{◌≡◌, drop, map}
use Rattle.elf_write.specs.Parts.{section_part}
use Rattle.elf_write.specs.Files.{with_parts}
use Rattle.elf_write.proofs.sections.put_sections.Given as goal

abbrev pub invariant-loop-section : goal.invariant-loop-section
invariant-loop-section l = with_parts (map section_part (drop l.section-index l.sections)) l.writer ≡ with_parts (map section_part l.sections) l.fn.writer
