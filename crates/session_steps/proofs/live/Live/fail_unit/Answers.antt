use Rattle.std.proofs.Common.{true}
use Rattle.session_replies.proofs.Turning.{right_unit}
use Rattle.session_steps.proofs.RightCalls.{right_unemitted}
use Rattle.session_steps.proofs.live.Live.fail_unit.Goals as goal

pub fail-requires : goal.fail-requires
fail-requires g c κs within =
    let at = c.requires.1.1 in
    let right = c.in_default.ensures.right in
    let unit = right_unit g.m c.args.s.0 c.args.u (λ x. true) right.0 right.1 in
    (within.0, (within.1, (at.parts, ((right.0, unit.0), right_unemitted g.m c.args.s.0 c.args.u (λ x. true) right.0 at.sound right.1))))
