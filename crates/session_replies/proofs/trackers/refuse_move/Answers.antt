use Rattle.session_replies.proofs.Answered.{move_refused, move_accepted}
use Rattle.session_replies.proofs.Found.{move_is}
use Rattle.session_replies.proofs.trackers.refuse_move.Goals as goal

pub returns-clause-refused : goal.returns-clause-refused
returns-clause-refused g c = move_refused g.m c.args.t c.args.to c.or-2.result
    (move_is g.U.UnitKind.meaning c.args.parts.now g.m c.args.t c.args.to c.gone.result c.gone-2.result c.or.result c.other_dylib.result c.or-2.result c.requires.1.1
    c.gone.ensures c.gone-2.ensures c.or.ensures c.other_dylib.ensures c.or-2.ensures)

pub returns-clause-accepted : goal.returns-clause-accepted
returns-clause-accepted g c = move_accepted g.m c.args.t c.args.to c.or-2.result
    (move_is g.U.UnitKind.meaning c.args.parts.now g.m c.args.t c.args.to c.gone.result c.gone-2.result c.or.result c.other_dylib.result c.or-2.result c.requires.1.1
    c.gone.ensures c.gone-2.ensures c.or.ensures c.other_dylib.ensures c.or-2.ensures)
