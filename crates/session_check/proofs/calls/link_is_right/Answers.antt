use Rattle.session_model.specs.Answer.{answer_link, called, can_link}
use Rattle.session_plain.specs.Meant.{meant}
use Rattle.session_check.proofs.CallLemmas.{both_tests, same_call}
use Rattle.session_check.proofs.calls.link_is_right.Goals as goal

pub returns : goal.returns
returns g c = let m = meant g.U.UnitKind.meaning c.args.s.now in
    both_tests c.same_reply.ensures (same_call (called m c.args.seat.0 c.args.u can_link) c.args.u (answer_link m c.args.u.0) c.in_ok-reply_link.field-0 c.args.reply.now c.in_ok-reply_link.ensures)
