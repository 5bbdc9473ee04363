-- The flags of the instances so far are taken back.
use Rattle.std.proofs.Common.{◌≡◌, ◌<◌, ℕ, Some, true, length}
use Rattle.std.specs.Prelude.{slice_get}
use Rattle.dep_groups.specs.Places.{is_set}
use Rattle.dep_groups.proofs.pending.lower_each.Given as goal

abbrev pub invariant-loop-instance : goal.invariant-loop-instance
invariant-loop-instance l = record {
  places : length l.flags ≡ length l.initial.flags;
  left : (i : ℕ) → is_set l.flags i ≡ true → is_set l.initial.flags i ≡ true;
  low : (k i : ℕ) → k < l.instance-index → slice_get l.instances k ≡ Some i → is_set l.flags i ≡ true → ⊥;
}
