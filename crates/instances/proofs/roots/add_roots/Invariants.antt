use Rattle.std.proofs.Common.{◌≡◌, ◌&&◌, ◌||◌, ℕ}
use Rattle.std.specs.Prelude.{nat_lt, nat_le}
use Rattle.instances.specs.Table.{is_among}
use Rattle.instances.specs.Removal.{is_unready}
use Rattle.instances.proofs.roots.add_roots.Given as goal

abbrev pub invariant-loop-i : goal.invariant-loop-i
invariant-loop-i l = record {
  added : (k : ℕ) → is_among l.into.items k ≡ (is_among l.initial.into.items k || (nat_le l.fn.span.first k && nat_lt k l.i && nat_lt k l.initial.into.places && is_unready l.rows k));
  places : l.into.places ≡ l.initial.into.places;
}
