use Rattle.std.proofs.Common.{◌≡◌, ◌+◌, drop}
use Rattle.std.specs.Prelude.{sum_by}
use Rattle.elf_read.specs.declared.object.Section.{Section}
use Rattle.link_model.specs.Sound.{MAX_BYTES}
use Rattle.link_graph.proofs.limits.bytes_left.Given as goal

abbrev pub invariant-loop-section : goal.invariant-loop-section
invariant-loop-section l = MAX_BYTES + sum_by (λ (s : Section). s.size) (drop l.section-index l.sections) ≡ l.left + sum_by (λ (s : Section). s.size) l.sections
