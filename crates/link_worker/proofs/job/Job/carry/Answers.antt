use Rattle.std.proofs.Common.{true, false, refl, sym, subst}
use Rattle.std.specs.Prelude.{is_none}
use Rattle.std.proofs.lemmas.Bool.{both_ways}
use Rattle.shared_session.proofs.Doing.{nothing_is_done}
use Rattle.turn_lock.specs.Handles.{view}
use Rattle.link_worker.specs.Does.{Does}
use Rattle.link_worker.specs.Jobs.{IsJobAt}
use Rattle.link_worker.specs.Units.{own_refusal}
use Rattle.link_worker.specs.Works.{Carries}
use Rattle.link_worker.proofs.Telling.{does_none}
use Rattle.link_worker.proofs.Working.{carried_on, carried_stopped, carries_none, stopped_now, stopped_still}
use Rattle.link_worker.proofs.job.Job.carry.Goals as goal

pub loop-init : goal.loop-init
loop-init g c =
    let means = g.U.UnitKind.meaning in
    let v = view c.args.pass.now in
    let unit = c.args.self.now.unit in
    let refusal = own_refusal means c.args.self.now in (
      c.requires.ready,
      c.requires.at,
      does_none means g.N.Notify.heard v v c.args.fired.now (Carries unit refusal c.args.first c.args.first true) (carries_none unit refusal c.args.first true) (nothing_is_done means v),
      λ e. c.requires.spares,
      tt,
    )

pub returns-in-Over-clause-ready : goal.returns-in-Over-clause-ready
returns-in-Over-clause-ready g c = c.loop.invariant.0

pub returns-in-Over-clause-free : goal.returns-in-Over-clause-free
returns-in-Over-clause-free g c = (subst (IsJobAt g.U.UnitKind.meaning g.row.JMAX (view c.loop.pass) c.args.self.now) c.in-Over.is c.loop.invariant.1).has

pub returns-in-Over-clause-carried : goal.returns-in-Over-clause-carried
returns-in-Over-clause-carried g c = subst (λ st. Does g.U.UnitKind.meaning g.N.Notify.heard (view c.args.pass.now) (view c.loop.pass) c.args.fired.now c.loop.fired (Carries c.args.self.now.unit (own_refusal g.U.UnitKind.meaning c.args.self.now) c.args.first st (is_none c.loop.stopped))) c.in-Over.is c.loop.invariant.2

pub returns-in-Over-clause-stopped : goal.returns-in-Over-clause-stopped
returns-in-Over-clause-stopped g c = c.loop.invariant.4

pub loop-preserved-in-Ok : goal.loop-preserved-in-Ok
loop-preserved-in-Ok g c =
    let means = g.U.UnitKind.meaning in
    let v = view c.args.pass.now in
    let x = view c.loop.pass in
    let w = view c.step.new.pass in
    let step = c.in-Ok.ensures.steps in (
      c.in-Ok.ensures.ready,
      step.job_at,
      carried_on means g.N.Notify.heard g.row.JMAX v x w c.args.fired.now c.loop.fired c.step.new.fired c.args.self.now c.args.first c.loop.stage (is_none c.loop.stopped) c.in-Ok.next c.loop.invariant.2 c.loop.invariant.3 step,
      λ e. step.spares,
      stopped_still means g.row.JMAX v.seen x.seen w.seen c.loop.stopped step.does.did.later c.loop.invariant.4,
    )

pub loop-preserved : goal.loop-preserved
loop-preserved g c =
    let means = g.U.UnitKind.meaning in
    let v = view c.args.pass.now in
    let x = view c.loop.pass in
    let w = view c.step.new.pass in
    let step = c.in-Err.ensures.steps in
    let next = sym c.stopped_stage-stage.ensures in
    let carried = subst (λ st. Does means g.N.Notify.heard v w c.args.fired.now c.step.new.fired (Carries c.args.self.now.unit (own_refusal means c.args.self.now) c.args.first st false)) next
    (carried_stopped means g.N.Notify.heard g.row.JMAX v x w c.args.fired.now c.loop.fired c.step.new.fired c.args.self.now c.args.first c.loop.stage (is_none c.loop.stopped) c.in-Err.stop c.loop.invariant.2 step) in (
      c.in-Err.ensures.ready,
      subst (IsJobAt means g.row.JMAX w c.args.self.now) next step.job_at,
      carried,
      λ e. absurd (both_ways false refl e),
      stopped_now means g.row.JMAX v.seen w.seen c.in-Err.stop carried.did.later step.cause,
    )
