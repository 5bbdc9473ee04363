use Rattle.std.proofs.Common.{rules}
use Rattle.session_steps.proofs.live.Live.hand_out.Goals as goal

pub start-requires : goal.start-requires
start-requires g c κs within = (within.0, (within.1, (c.requires.1.1.0, (c.requires.1.1.1.0, (search rules)))))

pub finish-requires : goal.finish-requires
finish-requires g c κs within = (within.0, (within.1, (c.requires.1.1.0, (c.requires.1.1.1.0, (search rules)))))
