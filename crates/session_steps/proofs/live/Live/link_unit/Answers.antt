use Rattle.session_replies.proofs.Turning.{right_unit}
use Rattle.session_model.specs.Answer.{can_link}
use Rattle.session_steps.proofs.live.Live.link_unit.Goals as goal

pub look_up_externals-requires : goal.look_up_externals-requires
look_up_externals-requires g c κs within =
    let r = c.requires.1.1 in
    let right = c.in_default.ensures.right in
    let unit = right_unit g.m c.args.s.0 c.args.u can_link right.0 right.1 in
    (within.0, (within.1, (r.0, (r.1, (right.0, unit.0, unit.2)))))
