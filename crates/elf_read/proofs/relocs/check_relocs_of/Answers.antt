use Rattle.std.proofs.Common.{sym, ap, ◌∙◌}
use Rattle.elf_read.specs.Sections.{is_kept}
use Rattle.elf_read.proofs.RelocEntries.{rela-inside}
use Rattle.elf_read.proofs.relocs.check_relocs_of.Goals as goal

pub names_no_symbol-requires : goal.names_no_symbol-requires
names_no_symbol-requires c =
    rw c.section-in-Some.ensures (
    rela-inside c.args.table.now c.args.i c.in-Some.r c.requires.sections
    (ap is_kept (sym c.section.ensures) ∙ sym c.is_kept.ensures ∙ c.if-not-is_kept.false)
    (sym c.in-Some.ensures))
