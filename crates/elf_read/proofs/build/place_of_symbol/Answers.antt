use Rattle.std.proofs.Common.{sym, ap, ◌∙◌}
use Rattle.elf_read.specs.Sections.{is_kept}
use Rattle.elf_read.proofs.Tables.{kept-number}
use Rattle.elf_read.proofs.build.place_of_symbol.Goals as goal

pub kept_before-requires : goal.kept_before-requires
kept_before-requires c =
    kept-number c.args.table.now c.args.entry.now.section (ap is_kept (sym c.section.ensures) ∙ sym c.is_kept.ensures ∙ c.if-is_kept.true)
