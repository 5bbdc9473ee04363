use Rattle.std.proofs.Common.{◌≡◌, ℕ, drop, length}
use Rattle.std.specs.Prelude.{slice_index, unwrap_or}
use Rattle.link_model.specs.Image.{bound_address}
use Rattle.unit_fixups.proofs.targets.bind.Given as goal

abbrev pub invariant-loop-k : goal.invariant-loop-k
invariant-loop-k l =
    (length l.told ≡ length l.initial.told) × ((s : ℕ) → slice_index l.told s ≡ unwrap_or (bound_address (drop l.k l.externals) (drop l.k l.bound) s) (slice_index l.initial.told s))
