use Rattle.std.proofs.Common.{◌≡◌, ◌+◌, drop}
use Rattle.elf_write.specs.Parts.{rela_parts}
use Rattle.elf_write.specs.Files.{with_parts}
use Rattle.elf_write.proofs.sections.put_relas.Given as goal

abbrev pub invariant-loop-i : goal.invariant-loop-i
invariant-loop-i l = with_parts (rela_parts l.symtab (l.i + 1) (drop l.i l.sections)) l.writer ≡ with_parts (rela_parts l.symtab 1 l.sections) l.fn.writer
