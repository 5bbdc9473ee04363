use Rattle.std.proofs.Common.{◌≡◌, ℕ}
use Rattle.elf_read.specs.Index.{spans_at, takers}
use Rattle.elf_read.proofs.overlaps.taken_spans.Given as goal

abbrev pub invariant-loop-i : goal.invariant-loop-i
invariant-loop-i l = (k : ℕ) → spans_at l.spans.items k ≡ takers l.table l.i k
