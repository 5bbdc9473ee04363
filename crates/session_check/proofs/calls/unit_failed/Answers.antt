use Rattle.std.proofs.Common.{◌≡◌, true, sym, ◌∙◌}
use Rattle.session_model.specs.Answer.{HasCause}
use Rattle.session_model.specs.State.{plain_history}
use Rattle.session_model.specs.declared.entry.Reply.TheVariants.{Failed}
use Rattle.session_plain.specs.Meant.{meant, unit_row}
use Rattle.session_check.proofs.CallLemmas.{both_tests, turned_call}
use Rattle.session_check.proofs.calls.unit_failed.Goals as goal

pub returns-in-Some : goal.returns-in-Some
returns-in-Some g c = let means = g.U.UnitKind.meaning in let x = unit_row means c.args.x.now in
    both_tests c.same_reply.ensures (turned_call c.args.seat.0 c.args.u (λ y. true) x (λ y. HasCause c.args.jmax (plain_history means c.args.past.now) (meant means c.args.s.now) c.args.u.0 y c.args.why × (c.args.reply.now ≡ Failed)) c.in-Some.known c.args.reply.now
    (sym c.turn_away.ensures ∙ c.in-Some.is))
