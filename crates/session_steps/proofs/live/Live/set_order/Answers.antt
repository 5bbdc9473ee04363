use Rattle.session_steps.proofs.Standing.{refused_step}
use Rattle.session_steps.proofs.live.Live.set_order.Goals as goal

pub returns-in-Some-clause-step : goal.returns-in-Some-clause-step
returns-in-Some-clause-step g c = λ s. refused_step g.U.UnitKind.meaning g.m s _ _ c.args.self.now.parts c.requires.1.1.0 c.in-Some.ensures.refused

pub set_order-requires : goal.set_order-requires
set_order-requires g c κs within = (within.0, (within.1, (c.requires.1.1.0.parts, c.in_default.ensures.accepted.there)))

pub refuse_order-requires : goal.refuse_order-requires
refuse_order-requires g c κs within = (within.0, (within.1, (c.requires.1.1.0.parts, c.requires.1.1.1)))
