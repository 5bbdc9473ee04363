use Rattle.std.proofs.Common.{◌+◌, cond, ap, add-zero, refl, sym, ◌∙◌, arith}
use Rattle.elf_read.specs.Symbols.{kept_below}
use Rattle.elf_read.proofs.Tables.{kept_below-le, counts-more, count-more}
use Rattle.elf_read.proofs.table.kept_before.Goals as goal
use Rattle.elf_read.proofs.table.kept_before.Goals.{then-is_kept, else-is_kept}

pub loop-i-init : goal.loop-i-init
unfolding kept_below
loop-i-init c = (c.new-before.ensures.items, refl)

pub overflow_add-kept : goal.overflow_add-kept
overflow_add-kept c = omega (arith, c.loop-i.invariant.1, kept_below-le c.args.file.now c.loop-i.i)

pub loop-i-preserved : goal.loop-i-preserved
loop-i-preserved c = (
  c.in_ok-push.ensures.items ∙ counts-more c.args.file.now c.loop-i.i c.loop-i.kept c.loop-i.before.items c.loop-i.invariant.0 c.loop-i.invariant.1,
  elim c.if-is_kept.branch [
    | then-is_kept w ↦ w.kept-is ∙ ap (λ b. c.loop-i.kept + cond b 1 0) (sym w.if-is_kept.true) ∙ ap (λ b. c.loop-i.kept + cond b 1 0) c.is_kept.ensures ∙ count-more c.args.file.now c.loop-i.i c.loop-i.kept c.section.result c.section.ensures c.loop-i.invariant.1
    | else-is_kept w ↦ w.kept-is ∙ sym (add-zero c.loop-i.kept) ∙ ap (λ b. c.loop-i.kept + cond b 1 0) (sym w.if-is_kept.false) ∙ ap (λ b. c.loop-i.kept + cond b 1 0) c.is_kept.ensures ∙ count-more c.args.file.now c.loop-i.i c.loop-i.kept c.section.result c.section.ensures c.loop-i.invariant.1
  ],
)
