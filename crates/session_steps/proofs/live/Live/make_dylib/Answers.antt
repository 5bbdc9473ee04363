use Rattle.session_steps.proofs.Standing.{refused_step}
use Rattle.session_steps.proofs.live.Live.make_dylib.Goals as goal

pub returns-in-Some-clause-step : goal.returns-in-Some-clause-step
returns-in-Some-clause-step g c = λ s. refused_step g.U.UnitKind.meaning g.m s _ _ c.args.self.now.parts c.requires.1.1 c.in-Some.ensures.refused

pub make_dylib-requires : goal.make_dylib-requires
make_dylib-requires g c κs within = (within.0, (within.1, (c.requires.1.1.parts, ((λ i r t. (c.requires.1.1.homes.rows i r t).dylib), c.in_default.ensures.made.1))))
