use Rattle.session_parts.proofs.Entered.{tracker_of}
use Rattle.session_steps.proofs.NewUnits.{generator_back}
use Rattle.session_steps.proofs.Standing.{refused_step}
use Rattle.session_steps.proofs.live.Live.attach.Goals as goal

pub returns-in-Some-clause-step : goal.returns-in-Some-clause-step
returns-in-Some-clause-step g c = λ s. refused_step g.U.UnitKind.meaning g.m s _ _ c.args.self.now.parts c.requires.1.1.0 (c.in-Some.ensures.refused (g.U.UnitKind.meaning c.args.unit) c.requires.1.1.1)

pub returns-in-Some-clause-back : goal.returns-in-Some-clause-back
returns-in-Some-clause-back g c = generator_back g.U.UnitKind.meaning g.m c.args.d c.args.t c.args.unit c.in-Some.refusal (c.in-Some.ensures.refused (g.U.UnitKind.meaning c.args.unit) c.requires.1.1.1)

pub attach-requires : goal.attach-requires
attach-requires g c κs within = let a = c.in_default.ensures.accepted in
    (within.0, (within.1, (c.requires.1.1.0.parts, (a.few, (tracker_of g.m c.args.d.0 c.args.t.0 a.tracker).0))))
