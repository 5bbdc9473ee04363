use Rattle.session_replies.proofs.Answered.{attach_refused, attach_accepted}
use Rattle.session_replies.proofs.Found.{place_is, attach_is}
use Rattle.session_replies.proofs.definitions.refuse_attach.Goals as goal

pub returns-clause-refused : goal.returns-clause-refused
returns-clause-refused g c = attach_refused g.m c.args.d c.args.t c.or-2.result
    (attach_is g.U.UnitKind.meaning c.args.parts.now g.m c.args.d c.args.t c.len.result c.or.result c.too_many.result c.or-2.result c.requires.1.1
    (place_is g.U.UnitKind.meaning c.args.parts.now g.m c.args.d c.args.t c.absent.result c.not_of.result c.or.result c.requires.1.1 c.absent.ensures c.not_of.ensures c.or.ensures)
    c.len.ensures.count c.too_many.ensures c.or-2.ensures)

pub returns-clause-accepted : goal.returns-clause-accepted
returns-clause-accepted g c = attach_accepted g.m c.args.d c.args.t c.or-2.result
    (attach_is g.U.UnitKind.meaning c.args.parts.now g.m c.args.d c.args.t c.len.result c.or.result c.too_many.result c.or-2.result c.requires.1.1
    (place_is g.U.UnitKind.meaning c.args.parts.now g.m c.args.d c.args.t c.absent.result c.not_of.result c.or.result c.requires.1.1 c.absent.ensures c.not_of.ensures c.or.ensures)
    c.len.ensures.count c.too_many.ensures c.or-2.ensures)
