use Rattle.std.proofs.Common.{sym}
use Rattle.session_model.specs.Answer.{can_emit}
use Rattle.session_replies.proofs.Turning.{right_unit}
use Rattle.session_steps.proofs.Emission.{may_emit, members_once, bad_step}
use Rattle.session_steps.proofs.RightCalls.{right_unemitted}
use Rattle.session_steps.proofs.live.Live.emit_unit.Goals as goal

pub returns-in-Some-bad_dependency-clause-step : goal.returns-in-Some-bad_dependency-clause-step
returns-in-Some-bad_dependency-clause-step g c =
    let right = c.in_default.ensures.right in
    bad_step g.U.UnitKind.meaning g.m c.args.s c.args.u c.args.groups.now c.args.bytes right.0 c.in-Some-bad_dependency.reply c.args.self.now.parts c.requires.1.1.0 right.1 (sym c.in-Some-bad_dependency.ensures) (c.requires.1.1.1.1 right.0 right.1)

pub emit-requires : goal.emit-requires
emit-requires g c κs within =
    let r = c.requires.1.1 in
    let right = c.in_default.ensures.right in
    let unit = right_unit g.m c.args.s.0 c.args.u can_emit right.0 right.1 in
    let lawful = r.0.lawful.units c.args.u.0 right.0 unit.0 in
    let finish = r.1.1 right.0 right.1 in (
      within.0,
      (
        within.1,
        (
          r.0.parts,
          (
            may_emit g.m c.args.s.0 c.args.u right.0 c.args.bytes c.args.groups.now right.1 lawful finish,
            (
              members_once g.m c.args.s.0 c.args.u right.0 c.args.bytes c.args.groups.now right.1 lawful r.1.0 finish,
              right_unemitted g.m c.args.s.0 c.args.u can_emit right.0 r.0.sound right.1,
            ),
          ),
        ),
      ),
    )
