use Rattle.std.proofs.Common.{◌≡◌, ap, sym, ◌∙◌, Some}
use Rattle.session_model.specs.Answer.{AnswersPlace}
use Rattle.session_model.specs.Plain.{unit_shape}
use Rattle.session_plain.specs.Calls.{turned_away}
use Rattle.session_plain.specs.Meant.{meant, unit_row}
use Rattle.session_model.specs.Answer.{can_place}
use Rattle.session_check.proofs.CallLemmas.{both_tests, turned_call}
use Rattle.session_check.proofs.calls.unit_placed.Goals as goal

pub returns-in-Some : goal.returns-in-Some
returns-in-Some g c = let means = g.U.UnitKind.meaning in let x = unit_row means c.args.x.now in
    both_tests c.same_reply.ensures (turned_call c.args.seat.0 c.args.u can_place x (λ y. (unit_shape y ≡ Some c.args.shape) × AnswersPlace (meant means c.args.s.now) c.args.shape c.args.reply.now) c.in-Some.known c.args.reply.now
    (sym (c.turn_away.ensures ∙ ap (λ b. turned_away c.args.seat.0 c.args.u b x) c.place_is_next.ensures) ∙ c.in-Some.is))
