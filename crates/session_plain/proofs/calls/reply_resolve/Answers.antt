use Rattle.session_model.specs.declared.entry.Reply.TheVariants.{Resolved}
use Rattle.session_model.specs.Answer.{can_resolve}
use Rattle.session_plain.specs.Meant.{meant}
use Rattle.session_plain.proofs.CallLemmas.{call_answered}
use Rattle.session_plain.proofs.calls.reply_resolve.Goals as goal

pub returns : goal.returns
returns g c = call_answered (meant g.U.UnitKind.meaning c.args.s.now) c.args.seat.0 c.args.u can_resolve Resolved c.answer_resolve.result c.answer_resolve.ensures
