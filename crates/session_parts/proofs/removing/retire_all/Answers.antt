use Rattle.std.proofs.Common.{◌<◌, ap, refl, subst, sym, ◌∙◌, length}
use Rattle.std.specs.Prelude.{All}
use Rattle.std.proofs.lemmas.List.Elements.{All-rest}
use Rattle.orc_ids.specs.declared.ids.UnitId.{UnitId}
use Rattle.session_laws.proofs.Declared.{changed_length}
use Rattle.mat_unit.specs.Changes as one
use Rattle.session_parts.proofs.Retiring.{Removing, Freeing, one_removed, all_gone, one_freed, all_freed, head_there}
use Rattle.session_parts.proofs.removing.retire_all.Goals as goal

pub loop-u-init : goal.loop-u-init
loop-u-init g c =
    let its = c.into_iter-u-iterator.ensures.into_iter_gives ∙ c.iter-u-items.ensures.rest in
    record {
      units = subst (λ rest. Removing c.args.gone.now c.args.units.now.units rest c.args.units.now.units) (sym its) (λ new removed. removed);
      jobs = refl;
      space = subst (λ rest. Freeing c.args.gone.now c.args.space.now rest c.args.space.now) (sym its) (λ new freed. freed);
      ranged = c.requires.ranged;
      there = subst (λ rest. All (λ (u : UnitId). u.0 < length c.args.units.now.units) rest) (sym its) c.requires.there;
    }

pub retire-requires : goal.retire-requires
retire-requires g c = record { there = head_there (length c.loop-u.units.units) c.loop-u.u-iterator c.in-Some.u.now c.next.new.self c.in-Some.ensures.steps c.loop-u.invariant.there; ranged = c.loop-u.invariant.ranged }

pub loop-u-preserved : goal.loop-u-preserved
loop-u-preserved g c =
    let made = ap (λ r. r.units) c.retire.ensures.units in
    record {
      units = one_removed c.args.gone.now c.args.units.now.units c.loop-u.u-iterator c.in-Some.u.now c.next.new.self c.loop-u.units.units c.retire.new.units.units c.in-Some.ensures.steps made c.loop-u.invariant.units;
      jobs = ap (λ r. r.jobs) c.retire.ensures.units ∙ c.loop-u.invariant.jobs;
      space = one_freed c.args.gone.now c.args.space.now c.loop-u.u-iterator c.in-Some.u.now c.next.new.self c.loop-u.space c.retire.new.space c.in-Some.ensures.steps c.retire.ensures.space c.loop-u.invariant.space;
      ranged = c.retire.ensures.ranged;
      there = subst (λ n. All (λ (u : UnitId). u.0 < n) c.next.new.self) (sym (ap length made ∙ changed_length c.in-Some.u.now.0 one.removed c.loop-u.units.units))
          (All-rest (λ (v : UnitId). v.0 < length c.loop-u.units.units) c.in-Some.u.now c.next.new.self c.loop-u.u-iterator c.in-Some.ensures.steps c.loop-u.invariant.there);
    }

pub returns : goal.returns
returns g c = record {
  units = all_gone c.args.gone.now c.args.units.now.units c.loop-u.u-iterator c.loop-u.units.units c.in-None.ensures.steps.0 c.loop-u.invariant.units;
  jobs = c.loop-u.invariant.jobs;
  space = all_freed c.args.gone.now c.args.space.now c.loop-u.u-iterator c.loop-u.space c.in-None.ensures.steps.0 c.loop-u.invariant.space;
}
