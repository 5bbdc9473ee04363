use Rattle.std.proofs.Common.{◌∙◌, ap, arith, length, refl, subst, sym}
use Rattle.orc_io.specs.Numbers.{AreNumberedFrom}
use Rattle.session_command.proofs.Placing.{first_numbered, rest_numbered}
use Rattle.session_command.proofs.notes.put_unused.Goals as goal

pub loop-what-init : goal.loop-what-init
loop-what-init g c =
    let gives = c.into_iter-what-iterator.ensures.into_iter_gives in
    record {
      places = c.requires.places;
      count = refl;
      numbered = subst (AreNumberedFrom g.N.Notify.number c.args.first) (sym gives.0) c.requires.numbered;
      few = omega (arith, ap length gives.0, c.requires.few);
    }

pub put_unheard-requires-clause-number : goal.put_unheard-requires-clause-number
put_unheard-requires-clause-number g c = first_numbered g.N.Notify.number _ _ _ c.in-Some.what c.in-Some.ensures.steps.0 c.loop-what.invariant.numbered

pub loop-what-preserved : goal.loop-what-preserved
loop-what-preserved g c =
    let i = c.loop-what.invariant in
    let steps = c.in-Some.ensures.steps in
    record {
      places = c.put_unheard.ensures.places;
      count = c.put_unheard.ensures.count ∙ i.count;
      numbered = rest_numbered g.N.Notify.number _ _ _ c.in-Some.what steps.0 i.numbered;
      few = omega (arith, ap length steps.0, i.few);
    }
