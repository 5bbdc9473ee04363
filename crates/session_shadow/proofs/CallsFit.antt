-- There is no right call on a unit that turns it away.
use Rattle.std.proofs.Common.{◌≡◌, ℕ, Bool, true, false, slice_get, Some, None, is_some, refl, ap, sym, ◌∙◌}
use Rattle.std.specs.Bool.{if◌then◌else◌}
use Rattle.std.specs.Option.{option_map_or}
use Rattle.std.specs.Prelude.{◌&&◌}
use Rattle.std.proofs.lemmas.Bool.{both_ways}
use Rattle.orc_ids.specs.declared.ids.UnitId.{UnitId}
use Rattle.session_model.specs.Plain.{Plain, UnitRow, is_defunct}
use Rattle.session_model.specs.Answer.{Gone, Right, Wrong, called, is_held}
use Rattle.session_model.specs.declared.entry.Reply.TheVariants as reply
use Rattle.session_plain.specs.Calls.{turned_away, called_at}

away_right : (gone right : Bool) (u : UnitId) (y x : UnitRow) → is_some (if gone then Some (reply.Defunct u) else (if right then None else Some (reply.WrongPhase u))) ≡ true → (if gone then Gone else (if right then Right y else Wrong)) ≡ Right x → ⊥
away_right true right u y x away is = cc
away_right false true u y x away is = both_ways false refl away
away_right false false u y x away is = cc

pub turned_right : {P : Type 0} (m : Plain) (s : ℕ) (u : UnitId) (fits : UnitRow → Bool) (y x : UnitRow) → slice_get m.units u.0 ≡ Some y → is_some (turned_away s u (fits y) y) ≡ true → called m s u fits ≡ Right x → P
turned_right m s u fits y x there away right = absurd (away_right (is_defunct y.phase) (is_held s y && fits y) u y x away (sym (ap (λ o. option_map_or (called_at s fits) o Wrong) there) ∙ right))
