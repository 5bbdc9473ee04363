use Rattle.std.proofs.Common.{sym, ap, ◌∙◌}
use Rattle.elf_read.specs.declared.fields.SectionHeader.{SectionHeader}
use Rattle.elf_read.proofs.Apart.{spans-added, spans-skipped}
use Rattle.elf_read.proofs.overlaps.add_section.Goals as goal

pub returns-then-not-takes : goal.returns-then-not-takes
returns-then-not-takes c = λ k. spans-skipped c.args.table.now c.args.i _ k (sym c.takes.ensures ∙ c.if-not-takes.true)

pub returns : goal.returns
returns c = λ k.
    rw c.in_ok-push.ensures.items (
    spans-added c.args.spans.now.items c.args.table.now c.args.i _ (sym c.takes.ensures ∙ c.if-not-takes.false)
    (ap (λ (s : SectionHeader). s.offset) c.section-section.ensures)
    (ap (λ (s : SectionHeader). s.size) c.section-section.ensures)
    k)
