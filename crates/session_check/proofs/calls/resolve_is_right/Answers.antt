use Rattle.session_model.specs.Answer.{called}
use Rattle.session_model.specs.declared.entry.Reply.TheVariants.{Resolved}
use Rattle.session_model.specs.Answer.{can_resolve}
use Rattle.session_plain.specs.Meant.{meant}
use Rattle.session_check.proofs.CallLemmas.{both_tests, same_call}
use Rattle.session_check.proofs.calls.resolve_is_right.Goals as goal

pub returns : goal.returns
returns g c = let m = meant g.U.UnitKind.meaning c.args.s.now in
    both_tests c.same_reply.ensures (same_call (called m c.args.seat.0 c.args.u can_resolve) c.args.u (λ x. Resolved) c.reply_resolve.result c.args.reply.now c.reply_resolve.ensures)
