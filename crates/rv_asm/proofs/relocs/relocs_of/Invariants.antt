use Rattle.std.proofs.Common.{◌≡◌, ◌+◌, ◌++◌, length, drop}
use Rattle.std.specs.Prelude.{All}
use Rattle.elf_write.specs.Canonical.{HoldsReloc}
use Rattle.rv_asm.specs.Sections.{relocs_of}
use Rattle.rv_asm.proofs.relocs.relocs_of.Given as goal

abbrev pub invariant-loop-patch : goal.invariant-loop-patch
invariant-loop-patch l =
    (l.items.items ++ relocs_of l.symbols l.order l.section (drop l.patch-index l.patches) ≡ relocs_of l.symbols l.order l.section l.patches)
    × All (HoldsReloc (1 + length l.order)) l.items.items
