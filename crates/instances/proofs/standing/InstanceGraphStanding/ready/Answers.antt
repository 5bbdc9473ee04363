use Rattle.instances.proofs.Standings.{emitted_stands}
use Rattle.instances.proofs.standing.InstanceGraphStanding.ready.Goals as goal

pub returns-clause-addressed : goal.returns-clause-addressed
returns-clause-addressed c = λ h. (emitted_stands c.args.self.now.rows c.args.i.0 (c.is_ready.ensures.emitted h)).0

pub returns-clause-sound : goal.returns-clause-sound
returns-clause-sound c = λ h. (emitted_stands c.args.self.now.rows c.args.i.0 (c.is_ready.ensures.emitted h)).1
