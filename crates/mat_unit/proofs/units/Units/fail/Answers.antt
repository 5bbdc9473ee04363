-- One unit is changed, and no job.
use Rattle.std.proofs.Common.{arith, ◌<◌, length, ap, sym, subst, refl}
use Rattle.mat_unit.specs.Changes.{failed, is_held}
use Rattle.mat_unit.specs.Roster.{Roster}
use Rattle.mat_unit.specs.declared.unit.Unit.{Unit as OneUnit}
use Rattle.mat_unit.proofs.Kept.{roster_write, kept_freed, counted_there, freed, no_more, owed_of}
use Rattle.mat_unit.proofs.units.Units.fail.Goals as goal

pub index_mut-unit-requires : goal.index_mut-unit-requires
index_mut-unit-requires g c =
    let less : c.args.u.0 < length c.self.inside.units.items = subst (λ (r : Roster g.row.U.Denot). c.args.u.0 < length r.units) (sym c.self.view_is) c.requires in
    omega (arith, less, c.self.inside.units.ok.0)

pub overflow_sub-self : goal.overflow_sub-self
overflow_sub-self g c =
    let less : c.args.u.0 < length c.self.inside.units.items = subst (λ (r : Roster g.row.U.Denot). c.args.u.0 < length r.units) (sym c.self.view_is) c.requires in
    counted_there c.self.inside.units.items _ c.args.u.0 c.index_mut-unit.result.now c.is_held.result c.self.invariant.counted less c.index_mut-unit.ensures.value (no_more _ _ c.is_held.ensures)

pub invariant_of-self : goal.invariant_of-self
invariant_of-self g c =
    let less : c.args.u.0 < length c.self.inside.units.items = subst (λ (r : Roster g.row.U.Denot). c.args.u.0 < length r.units) (sym c.self.view_is) c.requires in
    kept_freed c.self.inside.units.items c.self.inside.jobs _ _ _ c.args.u.0 c.index_mut-unit.result.now c.fail.new.self c.is_held.result c.self.invariant less c.index_mut-unit.ensures.value (ap (λ (x : OneUnit g.row.U.Denot). owed_of x) c.fail.ensures) (freed _ _ _ c.is_held.ensures (ap (λ (x : OneUnit g.row.U.Denot). is_held x) c.fail.ensures))

pub returns : goal.returns
returns g c =
    let inside : Roster g.row.U.Denot = record { units = c.self.inside.units.items; jobs = c.self.inside.jobs.jobs; spare = c.self.inside.spare } in
    roster_write (failed) (λ js. js) inside c.args.self.now c.args.u.0 c.index_mut-unit.result.now c.fail.new.self c.self.inside.jobs.jobs c.self.view_is c.requires c.index_mut-unit.ensures.value c.fail.ensures refl
