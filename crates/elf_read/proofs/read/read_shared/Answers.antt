use Rattle.std.proofs.Common.{sym, ap, ◌∙◌}
use Rattle.elf_read.specs.File.{File, file_of}
use Rattle.elf_read.proofs.RelocEntries.{symtab-inside}
use Rattle.elf_read.proofs.read.read_shared.Goals as goal

pub check_symbols-requires : goal.check_symbols-requires
check_symbols-requires c = symtab-inside c.in_ok-table.table c.in_ok-check_sections.ensures

pub build-requires-clause-symbols : goal.build-requires-clause-symbols
build-requires-clause-symbols c = symtab-inside c.in_ok-table.table c.in_ok-check_sections.ensures

pub build-requires-clause-file : goal.build-requires-clause-file
unfolding file_of
build-requires-clause-file c = sym c.as_slice.ensures ∙ sym (ap (λ (f : File). f.bytes) (c.in_ok-table.ensures ∙ c.in_ok-open.ensures.file))
