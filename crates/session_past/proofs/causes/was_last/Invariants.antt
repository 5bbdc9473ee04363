use Rattle.std.proofs.Common.{◌≡◌, ◌↔◌, IsTrue, take, Some}
use Rattle.session_model.specs.Answer.{last_reply}
use Rattle.session_model.specs.State.{plain_history}
use Rattle.session_past.specs.Causes.{is_call_of}
use Rattle.session_past.proofs.causes.was_last.Given as goal

abbrev pub invariant-loop-e : goal.invariant-loop-e
invariant-loop-e g l = IsTrue l.was ↔ (last_reply (is_call_of l.call l.u.0) (plain_history g.U.UnitKind.meaning (take l.e-index l.past)) ≡ Some l.reply)
