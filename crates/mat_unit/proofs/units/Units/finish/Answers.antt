-- One unit is changed, and the oldest job is out.
use Rattle.std.proofs.Common.{arith, ◌<◌, length, ap, sym, subst, drop}
use Rattle.mat_unit.specs.Changes.{finishing, is_held}
use Rattle.mat_unit.specs.Roster.{Roster}
use Rattle.mat_unit.specs.declared.unit.Unit.{Unit as OneUnit}
use Rattle.mat_unit.proofs.Kept.{roster_write, kept_taken, one_more_fits, seized, owed_of}
use Rattle.mat_unit.proofs.units.Units.finish.Goals as goal

pub index_mut-unit-requires : goal.index_mut-unit-requires
index_mut-unit-requires g c =
    let less : c.args.u.0 < length c.self.inside.units.items = subst (λ (r : Roster g.row.U.Denot). c.args.u.0 < length r.units) (sym c.self.view_is) c.requires in
    omega (arith, less, c.self.inside.units.ok.0)

pub overflow_add-self : goal.overflow_add-self
overflow_add-self g c = one_more_fits c.self.inside.units.items _ _ c.self.invariant.counted c.self.invariant.few

pub invariant_of-self : goal.invariant_of-self
invariant_of-self g c =
    let less : c.args.u.0 < length c.self.inside.units.items = subst (λ (r : Roster g.row.U.Denot). c.args.u.0 < length r.units) (sym c.self.view_is) c.requires in
    kept_taken c.self.inside.units.items c.self.inside.jobs c.pop.new.self _ _ _ c.args.u.0 c.index_mut-unit.result.now c.finish.new.self _ c.self.invariant less c.index_mut-unit.ensures.value (ap (λ (x : OneUnit g.row.U.Denot). owed_of x) c.finish.ensures) (seized c.is_held.result _ _ c.is_held.ensures (ap (λ (x : OneUnit g.row.U.Denot). is_held x) c.finish.ensures)) c.pop.ensures.room c.pop.ensures.units c.pop.ensures.unit_room

pub returns : goal.returns
returns g c =
    let inside : Roster g.row.U.Denot = record { units = c.self.inside.units.items; jobs = c.self.inside.jobs.jobs; spare = c.self.inside.spare } in
    roster_write (finishing c.args.s c.args.bound) (λ js. drop 1 js) inside c.args.self.now c.args.u.0 c.index_mut-unit.result.now c.finish.new.self c.pop.new.self.jobs c.self.view_is c.requires c.index_mut-unit.ensures.value c.finish.ensures c.pop.ensures.jobs
