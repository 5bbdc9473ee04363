use Rattle.session_replies.proofs.Answered.{define_refused, define_accepted}
use Rattle.session_replies.proofs.Found.{place_is, define_is}
use Rattle.session_replies.proofs.definitions.refuse_define.Goals as goal

pub returns-clause-refused : goal.returns-clause-refused
returns-clause-refused g c = define_refused g.m c.args.d c.args.t c.args.count c.or-2.result
    (define_is g.U.UnitKind.meaning c.args.parts.now g.m c.args.d c.args.t c.args.count c.len.result c.rows.result.now c.or.result c.no_room.result c.or-2.result c.requires.1.1
    (place_is g.U.UnitKind.meaning c.args.parts.now g.m c.args.d c.args.t c.absent.result c.not_of.result c.or.result c.requires.1.1 c.absent.ensures c.not_of.ensures c.or.ensures)
    c.len.ensures c.rows.ensures c.no_room.ensures c.or-2.ensures)

pub returns-clause-accepted : goal.returns-clause-accepted
returns-clause-accepted g c = define_accepted g.m c.args.d c.args.t c.args.count c.or-2.result
    (define_is g.U.UnitKind.meaning c.args.parts.now g.m c.args.d c.args.t c.args.count c.len.result c.rows.result.now c.or.result c.no_room.result c.or-2.result c.requires.1.1
    (place_is g.U.UnitKind.meaning c.args.parts.now g.m c.args.d c.args.t c.absent.result c.not_of.result c.or.result c.requires.1.1 c.absent.ensures c.not_of.ensures c.or.ensures)
    c.len.ensures c.rows.ensures c.no_room.ensures c.or-2.ensures)
