use Rattle.std.proofs.Common.{◌≡◌, ℕ, ◌<◌, false, length, get_or, None}
use Rattle.elf_read.specs.Choice.{first_below}
use Rattle.elf_read.specs.Index.{is_owned}
use Rattle.elf_read.specs.Sections.{overlap_refusal}
use Rattle.elf_read.proofs.overlaps.check_each.Given as goal

abbrev pub invariant-loop-i : goal.invariant-loop-i
invariant-loop-i l = (first_below l.i (overlap_refusal l.table) ≡ None) × ((k : ℕ) → k < length l.taken → get_or l.taken k false ≡ is_owned l.table l.i k)
