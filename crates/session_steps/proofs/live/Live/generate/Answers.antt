use Rattle.session_steps.proofs.Standing.{refused_step}
use Rattle.session_steps.proofs.live.Live.generate.Goals as goal

pub returns-in-Some-clause-step : goal.returns-in-Some-clause-step
returns-in-Some-clause-step g c = λ s. refused_step g.U.UnitKind.meaning g.m s _ _ c.args.self.now.parts c.requires.1.1.0 c.in-Some.ensures.refused
