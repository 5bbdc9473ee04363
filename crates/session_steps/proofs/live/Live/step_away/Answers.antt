use Rattle.std.proofs.Common.{subst}
use Rattle.session_replies.specs.Turned.{IsTurned}
use Rattle.session_replies.proofs.Turning.{told_gone, gone_unit}
use Rattle.session_steps.proofs.live.Live.step_away.Goals as goal

pub let_go-requires : goal.let_go-requires
let_go-requires g c κs within =
    let turned = c.requires.1.1.1 in
    let gone = gone_unit g.m c.args.s.0 c.args.u turned.0 (told_gone g.m c.args.s.0 c.args.u c.in-Defunct.field-0 turned.0 (subst (IsTurned g.m c.args.s.0 c.args.u turned.0) c.in-Defunct.is turned.1)) in
    (within.0, (within.1, (c.requires.1.1.0.parts, (gone.0, gone.1))))
