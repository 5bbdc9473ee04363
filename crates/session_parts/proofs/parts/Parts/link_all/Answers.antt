use Rattle.std.proofs.Common.{sym}
use Rattle.session_parts.proofs.Links.{one_linked}
use Rattle.session_parts.proofs.parts.Parts.link_all.Goals as goal

pub loop-u-preserved : goal.loop-u-preserved
loop-u-preserved g c = one_linked g.U.UnitKind.meaning c.args.self.now c.loop-u.self c.link_due.new.self c.next_unit.new.self c.in-Some.u c.loop-u.invariant (sym c.in-Some.ensures.unit) c.in-Some.ensures.rest c.link_due.ensures.parts c.link_due.ensures.rest
