use Rattle.std.proofs.Common.{◌≡◌, ℕ, ◌↔◌, IsTrue, map, subst, sym, ap, ◌∙◌}
use Rattle.session_model.specs.Answer.{AnswersPlace}
use Rattle.session_model.specs.Plain.{placements}
use Rattle.session_plain.specs.Meant.{meant, unit_row}
use Rattle.session_plain.specs.Placing.{FitsAt}
use Rattle.session_plain.proofs.PlaceLemmas.{no_room_right}
use Rattle.session_plain.proofs.placing.answers_place.Goals as goal

pub returns-in-NoRoom : goal.returns-in-NoRoom
returns-in-NoRoom g c = let means = g.U.UnitKind.meaning in let m = meant means c.args.s.now in
    subst (λ r. IsTrue c.lacks_room.result ↔ AnswersPlace m c.args.shape r) (sym c.in-NoRoom.is)
    (no_room_right m c.args.shape c.in-NoRoom.need c.lacks_room.result
    (subst (λ rs. IsTrue c.lacks_room.result ↔ (c.in-NoRoom.need ≡ c.args.shape.need) × ((base : ℕ) → FitsAt rs c.args.shape base → ⊥))
    (c.deref-in-NoRoom.ensures.value ∙ (c.in_ok-taken.ensures ∙ ap (λ us. placements (map (unit_row means) us)) c.deref.ensures.value)) c.lacks_room.ensures))
