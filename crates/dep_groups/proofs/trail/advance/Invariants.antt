-- All dependencies before the cursor are ready.
use Rattle.std.proofs.Common.{◌≡◌, ◌-◌, ◌<◌, ℕ, Some, true, length}
use Rattle.std.specs.Prelude.{slice_get}
use Rattle.dep_groups.specs.Shape.{deps_in, ready_in}
use Rattle.dep_groups.proofs.trail.advance.Given as goal

abbrev pub invariant-loop-start : goal.invariant-loop-start
invariant-loop-start l = (k d : ℕ) → k < l.start → slice_get (deps_in l.graph l.group) k ≡ Some d → ready_in l.graph d ≡ true

abbrev pub decreases-loop-start : goal.decreases-loop-start
decreases-loop-start l = length l.deps - l.start
