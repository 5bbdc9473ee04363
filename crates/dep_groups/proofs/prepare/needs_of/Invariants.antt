use Rattle.std.proofs.Common.{◌≡◌, ◌≤◌, ◌<◌, ℕ, Some, take, Contains}
use Rattle.std.specs.Prelude.{slice_get}
use Rattle.orc_ids.specs.declared.ids.InstId.{InstId}
use Rattle.orc_ids.specs.declared.groups.Group.{Group}
use Rattle.dep_groups.specs.Adding.{member_count, dep_count}
use Rattle.dep_groups.proofs.prepare.needs_of.Given as goal

abbrev pub invariant-loop-group : goal.invariant-loop-group
invariant-loop-group l = record {
  places : l.places ≤ l.needs.places;
  members : (k : ℕ) (g : Group) → k < l.group-index → slice_get l.groups k ≡ Some g → (m : InstId) → Contains g.members m → m.0 < l.needs.places;
  deps : (k : ℕ) (g : Group) → k < l.group-index → slice_get l.groups k ≡ Some g → (d : InstId) → Contains g.deps d → d.0 < l.needs.places;
  member_count : l.needs.members ≡ member_count (take l.group-index l.groups);
  dep_count : l.needs.deps ≡ dep_count (take l.group-index l.groups);
}
