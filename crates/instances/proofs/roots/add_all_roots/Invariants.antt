use Rattle.std.proofs.Common.{◌≡◌, ◌||◌, ◌<◌, ℕ}
use Rattle.std.specs.Prelude.{All}
use Rattle.orc_ids.specs.declared.ids.UnitId.{UnitId}
use Rattle.instances.specs.Table.{is_among}
use Rattle.instances.specs.Removal.{roots}
use Rattle.instances.proofs.roots.add_all_roots.Given as goal

abbrev pub invariant-loop-u : goal.invariant-loop-u
invariant-loop-u l = record {
  added : (k : ℕ) → (is_among l.into.items k || roots l.u-iterator l.instances.rows k) ≡ (is_among l.initial.into.items k || roots l.gone l.instances.rows k);
  there : All (λ (u : UnitId). u.0 < l.instances.units) l.u-iterator;
  places : l.into.places ≡ l.initial.into.places;
}
