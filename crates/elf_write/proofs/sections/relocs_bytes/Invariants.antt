use Rattle.std.proofs.Common.{◌≡◌, ◌++◌, drop}
use Rattle.elf_write.specs.Tables.{relocs_bytes}
use Rattle.elf_write.proofs.sections.relocs_bytes.Given as goal

abbrev pub invariant-loop-reloc : goal.invariant-loop-reloc
invariant-loop-reloc l = l.out.items ++ relocs_bytes (drop l.reloc-index l.relocs) ≡ relocs_bytes l.relocs
