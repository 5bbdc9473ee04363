use Rattle.std.proofs.Common.{◌∙◌}
use Rattle.session_replies.proofs.Holding.{held_are_kept}
use Rattle.session_replies.proofs.jobs.kept.Goals as goal

pub returns : goal.returns
returns g c = c.held.ensures ∙ held_are_kept g.U.UnitKind.meaning c.args.parts.now.units.units g.m c.requires.1.1.kept.units
