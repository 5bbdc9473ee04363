use Rattle.session_replies.proofs.Answered.{order_refused, order_accepted}
use Rattle.session_replies.proofs.Found.{order_is}
use Rattle.session_replies.proofs.dylibs.refuse_order.Goals as goal

pub returns-clause-refused : goal.returns-clause-refused
returns-clause-refused g c = order_refused g.m c.args.d c.args.order.now c.or.result c.requires.1.1.1
    (order_is g.U.UnitKind.meaning c.args.parts.now g.m c.args.d c.args.order.now c.absent.result c.absent_in.result c.or.result c.requires.1.1.0 c.absent.ensures c.absent_in.ensures c.or.ensures)

pub returns-clause-accepted : goal.returns-clause-accepted
returns-clause-accepted g c = order_accepted g.m c.args.d c.args.order.now c.or.result
    (order_is g.U.UnitKind.meaning c.args.parts.now g.m c.args.d c.args.order.now c.absent.result c.absent_in.result c.or.result c.requires.1.1.0 c.absent.ensures c.absent_in.ensures c.or.ensures)
