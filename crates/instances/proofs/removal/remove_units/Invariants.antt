use Rattle.std.proofs.Common.{◌≡◌, ◌⊎◌, ◌<◌, ℕ, true, Some, map, slice_get}
use Rattle.std.specs.Prelude.{All}
use Rattle.orc_ids.specs.declared.ids.UnitId.{UnitId}
use Rattle.session_model.specs.declared.rows.InstRow.{InstRow}
use Rattle.instances.specs.Table.{is_among, HasSameRooms}
use Rattle.instances.specs.Removal.{is_gone, removed_row}
use Rattle.instances.proofs.removal.remove_units.Given as goal

abbrev pub invariant-loop-u : goal.invariant-loop-u
invariant-loop-u l = record {
  rows : map (removed_row l.u-iterator) l.instances.rows ≡ map (removed_row l.gone) l.initial.instances.rows;
  rooms : HasSameRooms l.initial.instances l.instances;
  there : All (λ (u : UnitId). u.0 < l.initial.instances.units) l.u-iterator;
  units : (k : ℕ) (r : InstRow) → slice_get l.initial.instances.rows k ≡ Some r → (q : InstRow) × (slice_get l.instances.rows k ≡ Some q) × (q.unit ≡ r.unit);
  changed : (k : ℕ) (r : InstRow) → slice_get l.initial.instances.rows k ≡ Some r → is_gone l.gone r.unit.0 ≡ true → k < l.initial.changed.places → (is_among l.changed.items k ≡ true) ⊎ (is_gone l.u-iterator r.unit.0 ≡ true);
  kept : (k : ℕ) → is_among l.initial.changed.items k ≡ true → is_among l.changed.items k ≡ true;
  places : l.changed.places ≡ l.initial.changed.places;
}
