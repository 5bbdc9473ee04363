use Rattle.std.proofs.Common.{◌≡◌, ◌&&◌, ◌||◌, ℕ, take}
use Rattle.std.specs.Prelude.{nat_lt}
use Rattle.instances.specs.Table.{is_among}
use Rattle.instances.proofs.inst_set.InstSet.add_all.Given as goal

abbrev pub invariant-loop-i : goal.invariant-loop-i
invariant-loop-i l = record {
  added : (k : ℕ) → is_among l.self.items k ≡ (is_among l.initial.self.items k || (is_among (take l.i-index l.list) k && nat_lt k l.initial.self.places));
  places : l.self.places ≡ l.initial.self.places;
}
