use Rattle.std.proofs.Common.{◌≡◌, true, is_some, ap, sym, subst, ◌∙◌}
use Rattle.session_model.specs.Answer.{can_emit}
use Rattle.session_plain.specs.Calls.{turned_away}
use Rattle.session_plain.specs.Meant.{meant, unit_row}
use Rattle.session_check.specs.Known.{known_meaning}
use Rattle.session_shadow.proofs.CallsFit.{turned_right}
use Rattle.session_shadow.proofs.fitting.to_emit.Goals as goal

pub returns-then-is_some : goal.returns-then-is_some
returns-then-is_some c = λ x right.
    let y = unit_row known_meaning c.in-Some.x.now in
    let away : is_some (turned_away c.args.s.0 c.args.u (can_emit y) y) ≡ true =
    subst (λ b. is_some (turned_away c.args.s.0 c.args.u b y) ≡ true) c.emit_is_next.ensures
    (ap is_some (sym c.turn_away.ensures) ∙ (sym c.is_some.ensures ∙ c.if-is_some.true)) in
    turned_right (meant known_meaning c.args.shadow.now.plain) c.args.s.0 c.args.u can_emit y x (sym c.in-Some.ensures.row) away right
