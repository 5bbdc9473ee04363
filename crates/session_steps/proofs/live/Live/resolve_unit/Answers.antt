use Rattle.session_model.specs.Answer.{can_resolve}
use Rattle.session_replies.proofs.Turning.{right_unit}
use Rattle.session_steps.proofs.RightCalls.{owned_offers}
use Rattle.session_steps.proofs.live.Live.resolve_unit.Goals as goal

pub resolve-requires : goal.resolve-requires
resolve-requires g c κs within =
    let at = c.requires.1.1 in
    let right = c.in_default.ensures.right in
    let unit = right_unit g.m c.args.s.0 c.args.u can_resolve right.0 right.1 in
    (within.0, (within.1, (at.parts, (at.sound, ((right.0, unit.0, unit.2), owned_offers g.m c.args.u.0 at.offered)))))
