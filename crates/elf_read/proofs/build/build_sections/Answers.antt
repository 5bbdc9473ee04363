use Rattle.std.proofs.Common.{sym, ap, ◌∙◌}
use Rattle.elf_read.specs.Sections.{is_kept}
use Rattle.elf_read.proofs.Builds.{sections-none, sections-kept, sections-passed}
use Rattle.elf_read.proofs.build.build_sections.Goals as goal
use Rattle.elf_read.proofs.build.build_sections.Goals.{then-is_kept+in_ok-build_section+in_ok-push, else-is_kept}

pub loop-i-init : goal.loop-i-init
loop-i-init c = c.new-items.ensures.items ∙ sym (sections-none c.args.table.now)

pub loop-i-preserved : goal.loop-i-preserved
loop-i-preserved c =
    elim c.if-is_kept.branch [
      | then-is_kept+in_ok-build_section+in_ok-push w ↦
          ap (λ v. v.items) w.items-is ∙ w.in_ok-push.ensures.items
          ∙ sections-kept c.args.table.now c.loop-i.i c.loop-i.items.items w.in_ok-build_section.field-0 (ap is_kept (sym c.section.ensures) ∙ sym c.is_kept.ensures ∙ w.if-is_kept.true) c.loop-i.invariant w.in_ok-build_section.ensures
      | else-is_kept w ↦
          ap (λ v. v.items) w.items-is
          ∙ sections-passed c.args.table.now c.loop-i.i c.loop-i.items.items (ap is_kept (sym c.section.ensures) ∙ sym c.is_kept.ensures ∙ w.if-is_kept.false) c.loop-i.invariant
    ]
