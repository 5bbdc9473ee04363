use Rattle.session_model.specs.Answer.{answer_link, can_link}
use Rattle.session_plain.specs.Meant.{meant}
use Rattle.session_plain.proofs.CallLemmas.{call_answered_by}
use Rattle.session_plain.proofs.linking.reply_link.Goals as goal

pub returns : goal.returns
returns g c =
    let m = meant g.U.UnitKind.meaning c.args.s.now in
    call_answered_by m c.args.seat.0 c.args.u can_link (answer_link m c.args.u.0) c.in_ok-reply.reply c.in_ok-reply.ensures
