use Rattle.std.proofs.Common.{◌∙◌}
use Rattle.session_replies.specs.Turned.{fits}
use Rattle.session_replies.proofs.Turning.{wrong_seen, call_right, call_turned}
use Rattle.session_replies.proofs.calls.turn_away.Goals as goal

pub returns-clause-right : goal.returns-clause-right
returns-clause-right g c = call_right g.m c.args.s.0 c.args.u (fits c.args.call) c.turned_by.result
    (c.turned_by.ensures ∙ wrong_seen g.U.UnitKind.meaning c.args.s.0 c.args.u c.args.call c.args.parts.now.units.units g.m c.requires.1.1.kept.units)

pub returns-clause-turned : goal.returns-clause-turned
returns-clause-turned g c = call_turned g.m c.args.s.0 c.args.u (fits c.args.call) c.turned_by.result
    (c.turned_by.ensures ∙ wrong_seen g.U.UnitKind.meaning c.args.s.0 c.args.u c.args.call c.args.parts.now.units.units g.m c.requires.1.1.kept.units)
