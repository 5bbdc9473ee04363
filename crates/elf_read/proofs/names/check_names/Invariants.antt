use Rattle.std.proofs.Common.{◌≡◌, None}
use Rattle.elf_read.specs.Choice.{first_below}
use Rattle.elf_read.specs.Sections.{name_refusal}
use Rattle.elf_read.proofs.names.check_names.Given as goal

abbrev pub invariant-loop-i : goal.invariant-loop-i
invariant-loop-i l = first_below l.i (name_refusal l.table) ≡ None
