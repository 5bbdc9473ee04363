use Rattle.std.proofs.Common.{ap, sym, ◌∙◌}
use Rattle.session_model.specs.Answer.{AnswersEmit}
use Rattle.session_plain.specs.Calls.{turned_away}
use Rattle.session_model.specs.Answer.{can_emit}
use Rattle.session_plain.specs.Meant.{meant, unit_row}
use Rattle.session_check.proofs.CallLemmas.{both_tests, turned_call}
use Rattle.session_check.proofs.calls.unit_emitted.Goals as goal

pub returns-in-Some : goal.returns-in-Some
returns-in-Some g c = let means = g.U.UnitKind.meaning in let x = unit_row means c.args.x.now in
    both_tests c.same_reply.ensures (turned_call c.args.seat.0 c.args.u can_emit x (λ y. AnswersEmit (meant means c.args.s.now) c.args.u.0 c.args.groups.now y c.args.reply.now) c.in-Some.known c.args.reply.now
    (sym (c.turn_away.ensures ∙ ap (λ b. turned_away c.args.seat.0 c.args.u b x) c.emit_is_next.ensures) ∙ c.in-Some.is))
