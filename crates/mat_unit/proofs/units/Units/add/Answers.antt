-- The unit that is added uses the room for it.
use Rattle.std.proofs.Common.{◌<◌, length, ap, sym, subst}
use Rattle.orc_ids.specs.declared.limits.TheConstants.{UNIT_LIMIT}
use Rattle.mat_unit.specs.declared.unit.Unit.{Unit as OneUnit}
use Rattle.mat_unit.specs.Changes.{is_held}
use Rattle.mat_unit.specs.Roster.{Roster}
use Rattle.mat_unit.proofs.Kept.{kept_added, owed_of}
use Rattle.mat_unit.proofs.units.Units.add.Goals as goal

pub invariant_of-self : goal.invariant_of-self
invariant_of-self g c =
    let some : 0 < c.self.inside.spare = subst (λ (r : Roster g.row.U.Denot). 0 < r.spare) (sym c.self.view_is) c.requires.room in
    let few : length c.self.inside.units.items < UNIT_LIMIT = subst (λ (r : Roster g.row.U.Denot). length r.units < UNIT_LIMIT) (sym c.self.view_is) c.requires.few in
    kept_added c.self.inside.units.items c.push_reserved.new.self.items c.self.inside.jobs c.add_unit.new.self _ _ _ _ c.new.result c.self.invariant some few c.push_reserved.ensures.items c.push_reserved.ensures.capacity (ap (λ (x : OneUnit g.row.U.Denot). owed_of x) c.new.ensures) (ap (λ (x : OneUnit g.row.U.Denot). is_held x) c.new.ensures) c.add_unit.ensures.room c.add_unit.ensures.units c.add_unit.ensures.unit_room
