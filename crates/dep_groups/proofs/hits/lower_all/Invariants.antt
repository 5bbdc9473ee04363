-- What is still flagged is of an instance to come.
use Rattle.std.proofs.Common.{◌≡◌, ℕ, true, length}
use Rattle.dep_groups.specs.Places.{is_set}
use Rattle.dep_groups.specs.Marks.{IsTold}
use Rattle.dep_groups.proofs.hits.lower_all.Given as goal

abbrev pub invariant-loop-instance : goal.invariant-loop-instance
invariant-loop-instance l = record {
  left : (i : ℕ) → is_set l.flags i ≡ true → IsTold l.instances l.instance-index (record { 0 = i });
  sizes : length l.flags ≡ length l.initial.flags;
}
