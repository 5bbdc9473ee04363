use Rattle.std.proofs.Common.{◌≡◌, ◌<◌, ℕ, length, get_or, None}
use Rattle.elf_read.specs.Choice.{first_below}
use Rattle.elf_read.proofs.Tables.{rela_here}
use Rattle.elf_read.proofs.table.note_relas.Given as goal

abbrev pub invariant-loop-i : goal.invariant-loop-i
invariant-loop-i l = (length l.relas ≡ l.file.count) × ((k : ℕ) → k < l.file.count → get_or l.relas k None ≡ first_below l.i (rela_here l.file k))
