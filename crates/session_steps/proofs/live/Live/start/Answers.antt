use Rattle.session_steps.proofs.TakenJobs.{start_there, listed_alive}
use Rattle.session_steps.proofs.live.Live.start.Goals as goal

pub taken_unit-requires : goal.taken_unit-requires
taken_unit-requires g c κs within =
    let x = start_there g.U.UnitKind.meaning g.m c.args.self.now.parts c.args.u c.requires.1.1.0 c.requires.1.1.1.1 in
    (within.0, (within.1, (c.requires.1.1.0, (c.requires.1.1.1.0, listed_alive g.m c.args.u x))))

pub start-requires : goal.start-requires
start-requires g c κs within =
    let x = start_there g.U.UnitKind.meaning g.m c.args.self.now.parts c.args.u c.requires.1.1.0 c.requires.1.1.1.1 in
    (within.0, (within.1, (c.requires.1.1.0.parts, x)))
