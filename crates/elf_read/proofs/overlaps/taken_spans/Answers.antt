use Rattle.std.proofs.Common.{◌+◌, ℕ, sym, ap, ◌∙◌}
use Rattle.elf_read.specs.Index.{taken_by}
use Rattle.elf_read.proofs.Apart.{takers-next}
use Rattle.elf_read.proofs.overlaps.taken_spans.Goals as goal

pub loop-i-preserved : goal.loop-i-preserved
loop-i-preserved c = λ k.
    c.in_ok-add_section.ensures k
    ∙ ap (λ (n : ℕ). n + taken_by c.args.table.now c.loop-i.i k) (c.loop-i.invariant k)
    ∙ sym (takers-next c.args.table.now c.loop-i.i k)
