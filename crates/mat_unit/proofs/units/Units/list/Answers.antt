-- The job that is listed was owed.
use Rattle.std.proofs.Common.{◌≡◌, ℕ, [], ◌∷◌, ◌++◌, cond, ap, arith}
use Rattle.session_model.specs.declared.rows.Job.TheVariants.{Start}
use Rattle.mat_unit.specs.declared.unit.Unit.{Unit as OneUnit}
use Rattle.mat_unit.specs.Changes.{listed, is_held}
use Rattle.mat_unit.specs.Roster.{Roster}
use Rattle.mat_unit.proofs.Kept.{roster_write, roster_has, owed_of, has_room, kept_with_job}
use Rattle.mat_unit.proofs.Writes.{is_there}
use Rattle.mat_unit.proofs.units.Units.list.Goals as goal

pub push-requires : goal.push-requires
push-requires g c =
    let inside : Roster g.row.U.Denot = record { units = c.self.inside.units.items; jobs = c.self.inside.jobs.jobs; spare = c.self.inside.spare } in
    let has = roster_has (λ x. x.can_start) inside c.args.self.now c.args.u.0 c.index_mut.result.now c.self.view_is c.requires c.index_mut.ensures.value in
    let owed : cond c.index_mut.result.now.can_start 1 0 ≡ 1 = ap {B = ℕ} (λ b. cond b 1 0) has.1 in
    has_room inside.units c.self.inside.jobs _ _ _ c.args.u.0 c.index_mut.result.now c.self.invariant has.0 c.index_mut.ensures.value (omega (arith, owed))

pub invariant_of-self : goal.invariant_of-self
invariant_of-self g c =
    let inside : Roster g.row.U.Denot = record { units = c.self.inside.units.items; jobs = c.self.inside.jobs.jobs; spare = c.self.inside.spare } in
    let has = roster_has (λ x. x.can_start) inside c.args.self.now c.args.u.0 c.index_mut.result.now c.self.view_is c.requires c.index_mut.ensures.value in
    let owed : cond c.index_mut.result.now.can_start 1 0 ≡ 1 = ap {B = ℕ} (λ b. cond b 1 0) has.1 in
    kept_with_job inside.units c.self.inside.jobs c.push.new.self _ _ _ c.args.u.0 c.index_mut.result.now c.list.new.self c.self.invariant has.0 c.index_mut.ensures.value
    (ap (λ (x : OneUnit g.row.U.Denot). is_held x) c.list.ensures)
    (omega (arith, ap (λ (x : OneUnit g.row.U.Denot). owed_of x) c.list.ensures, owed))
    c.push.ensures.room c.push.ensures.units c.push.ensures.unit_room

pub returns : goal.returns
returns g c =
    let inside : Roster g.row.U.Denot = record { units = c.self.inside.units.items; jobs = c.self.inside.jobs.jobs; spare = c.self.inside.spare } in
    let less = is_there (λ x. x.can_start) c.args.self.now.units c.args.u.0 c.requires in
    roster_write listed (λ js. js ++ Start c.args.u ∷ []) inside c.args.self.now c.args.u.0 c.index_mut.result.now c.list.new.self c.push.new.self.jobs c.self.view_is less c.index_mut.ensures.value c.list.ensures c.push.ensures.jobs
