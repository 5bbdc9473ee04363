use Rattle.std.proofs.Common.{◌≡◌, None}
use Rattle.elf_read.specs.Choice.{first_below}
use Rattle.elf_read.specs.Sections.{section_refusal}
use Rattle.elf_read.proofs.sections.check_sections.Given as goal

abbrev pub invariant-loop-i : goal.invariant-loop-i
invariant-loop-i l = first_below l.i (section_refusal l.table) ≡ None
