-- What is still seen is of a visit to come.
use Rattle.std.proofs.Common.{◌≡◌, ◌≤◌, ℕ, true, length}
use Rattle.dep_groups.specs.Places.{is_set}
use Rattle.dep_groups.specs.Search.{IsSeen}
use Rattle.dep_groups.proofs.seek.unsee.Given as goal

abbrev pub invariant-loop-group : goal.invariant-loop-group
invariant-loop-group l = record {
  left : (g : ℕ) → is_set l.seen g ≡ true → (s : IsSeen l.order g) × (l.group-index ≤ s.at);
  sizes : length l.seen ≡ length l.initial.seen;
}
