use Rattle.std.proofs.Common.{◌≡◌, ℕ, None, drop, length}
use Rattle.std.specs.Prelude.{slice_index_or}
use Rattle.link_model.specs.Image.{offset_of}
use Rattle.unit_fixups.proofs.targets.note_all.Given as goal

abbrev pub invariant-loop-k : goal.invariant-loop-k
invariant-loop-k l = (length l.table ≡ length l.initial.table) × ((s : ℕ) → slice_index_or l.table s None ≡ offset_of (drop l.k l.pairs) s)
