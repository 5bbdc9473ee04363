use Rattle.std.proofs.Common.{◌≡◌, ◌≤◌, ◌<◌, ℕ, Some}
use Rattle.std.specs.Prelude.{slice_get}
use Rattle.orc_ids.specs.declared.ids.InstId.{InstId}
use Rattle.dep_groups.proofs.prepare.places_for.Given as goal

abbrev pub invariant-loop-instance : goal.invariant-loop-instance
invariant-loop-instance l = record {
  more : l.places ≤ l.count;
  covers : (k : ℕ) (i : InstId) → k < l.instance-index → slice_get l.instances k ≡ Some i → i.0 < l.count;
}
