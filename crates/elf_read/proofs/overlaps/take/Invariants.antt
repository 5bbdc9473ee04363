use Rattle.std.proofs.Common.{◌≡◌, ℕ, ◌-◌, ◌<◌, ◌≤◌, ◌||◌, false, length, get_or}
use Rattle.elf_read.specs.Index.{within}
use Rattle.elf_read.proofs.overlaps.take.Given as goal

abbrev pub invariant-loop-k : goal.invariant-loop-k
invariant-loop-k l = (l.start ≤ l.k) × ((j : ℕ) → j < length l.taken → get_or l.taken j false ≡ (get_or l.initial.taken j false || within l.start (l.k - l.start) j))
