-- The instances so far are taken out.
use Rattle.std.proofs.Common.{◌≡◌, ◌<◌, ◌⊎◌, ℕ, Some, None, Contains}
use Rattle.std.specs.Prelude.{slice_get}
use Rattle.orc_ids.specs.declared.ids.InstId.{InstId}
use Rattle.dep_groups.specs.Places.{place}
use Rattle.dep_groups.proofs.fail.take_out.Given as goal

abbrev pub invariant-loop-instance : goal.invariant-loop-instance
invariant-loop-instance l = record {
  out : (k : ℕ) (m : InstId) → k < l.instance-index → slice_get l.instances k ≡ Some m → place l.homes m.0 ≡ None;
  others : (i : ℕ) → (place l.homes i ≡ place l.initial.homes i) ⊎ (Contains l.instances (record { 0 = i }) × (place l.homes i ≡ None));
}
