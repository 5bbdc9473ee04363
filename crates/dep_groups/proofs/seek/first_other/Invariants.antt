-- The dependencies so far are ready or members.
use Rattle.std.proofs.Common.{◌≡◌, ◌<◌, ℕ, Some}
use Rattle.std.specs.Prelude.{slice_get}
use Rattle.dep_groups.specs.Shape.{deps_in}
use Rattle.dep_groups.specs.Seek.{IsOwn}
use Rattle.dep_groups.proofs.seek.first_other.Given as goal

abbrev pub invariant-loop-k : goal.invariant-loop-k
invariant-loop-k l = (k d : ℕ) → k < l.k → slice_get (deps_in l.graph l.group) k ≡ Some d → IsOwn l.graph l.group d
