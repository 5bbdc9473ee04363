-- One unit is changed, and no job.
use Rattle.std.proofs.Common.{arith, ◌<◌, length, ap, sym, subst, refl}
use Rattle.mat_unit.specs.Changes.{placed, is_held}
use Rattle.mat_unit.specs.Roster.{Roster}
use Rattle.mat_unit.specs.declared.unit.Unit.{Unit as OneUnit}
use Rattle.mat_unit.proofs.Kept.{roster_write, kept_same, owed_of}
use Rattle.mat_unit.proofs.units.Units.place.Goals as goal

pub index_mut-requires : goal.index_mut-requires
index_mut-requires g c =
    let less : c.args.u.0 < length c.self.inside.units.items = subst (λ (r : Roster g.row.U.Denot). c.args.u.0 < length r.units) (sym c.self.view_is) c.requires in
    omega (arith, less, c.self.inside.units.ok.0)

pub invariant_of-self : goal.invariant_of-self
invariant_of-self g c =
    let less : c.args.u.0 < length c.self.inside.units.items = subst (λ (r : Roster g.row.U.Denot). c.args.u.0 < length r.units) (sym c.self.view_is) c.requires in
    kept_same c.self.inside.units.items c.self.inside.jobs _ _ _ c.args.u.0 c.index_mut.result.now c.place.new.self c.self.invariant less c.index_mut.ensures.value (ap (λ (x : OneUnit g.row.U.Denot). owed_of x) c.place.ensures) (ap (λ (x : OneUnit g.row.U.Denot). is_held x) c.place.ensures)

pub returns : goal.returns
returns g c =
    let inside : Roster g.row.U.Denot = record { units = c.self.inside.units.items; jobs = c.self.inside.jobs.jobs; spare = c.self.inside.spare } in
    roster_write (placed c.args.base) (λ js. js) inside c.args.self.now c.args.u.0 c.index_mut.result.now c.place.new.self c.self.inside.jobs.jobs c.self.view_is c.requires c.index_mut.ensures.value c.place.ensures refl
