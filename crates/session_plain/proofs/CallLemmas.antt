-- A call that is answered so where it is right is answered by its definition.
use Rattle.std.proofs.Common.{◌≡◌, ℕ, Bool, true, false}
use Rattle.std.specs.Prelude.{Option, Some, None, slice_get, unwrap_or, ◌&&◌, if◌then◌else◌}
use Rattle.std.specs.Option.{option_map_or}
use Rattle.orc_ids.specs.declared.ids.UnitId.{UnitId}
use Rattle.session_model.specs.Plain.{Plain, UnitRow, is_defunct}
use Rattle.session_model.specs.Answer.{Gone, Wrong, Right, AnswersCall, called, is_held}
use Rattle.session_model.specs.declared.entry.Reply.{Reply}
use Rattle.session_model.specs.declared.entry.Reply.TheVariants.{Defunct, WrongPhase}
use Rattle.session_plain.specs.Calls.{turned_away, call_reply}

by_cases : (b c : Bool) (u : UnitId) (right r : Reply) (x : UnitRow) → r ≡ unwrap_or (if b then Some (Defunct u) else (if c then None else Some (WrongPhase u))) right → AnswersCall (if b then Gone else (if c then Right x else Wrong)) u (λ y. r ≡ right) r
by_cases true c u right r x e = e
by_cases false true u right r x e = e
by_cases false false u right r x e = e

by_unit : (s : ℕ) (u : UnitId) (fits : UnitRow → Bool) (right r : Reply) (found : Option UnitRow) → r ≡ call_reply s u fits right found → AnswersCall (option_map_or (λ x. if is_defunct x.phase then Gone else (if is_held s x && fits x then Right x else Wrong)) found Wrong) u (λ y. r ≡ right) r
by_unit s u fits right r None e = e
by_unit s u fits right r (Some x) e = by_cases (is_defunct x.phase) (is_held s x && fits x) u right r x e

pub call_answered : (m : Plain) (s : ℕ) (u : UnitId) (fits : UnitRow → Bool) (right r : Reply) → r ≡ call_reply s u fits right (slice_get m.units u.0) → AnswersCall (called m s u fits) u (λ y. r ≡ right) r
call_answered m s u fits right r e = by_unit s u fits right r (slice_get m.units u.0) e

cases_by : (b c : Bool) (u : UnitId) (right : UnitRow → Reply) (r : Reply) (x : UnitRow) → r ≡ unwrap_or (if b then Some (Defunct u) else (if c then None else Some (WrongPhase u))) (right x) → AnswersCall (if b then Gone else (if c then Right x else Wrong)) u (λ y. r ≡ right y) r
cases_by true c u right r x e = e
cases_by false true u right r x e = e
cases_by false false u right r x e = e

unit_by : (s : ℕ) (u : UnitId) (fits : UnitRow → Bool) (right : UnitRow → Reply) (r : Reply) (found : Option UnitRow) → r ≡ option_map_or (λ x. unwrap_or (turned_away s u (fits x) x) (right x)) found (WrongPhase u) → AnswersCall (option_map_or (λ x. if is_defunct x.phase then Gone else (if is_held s x && fits x then Right x else Wrong)) found Wrong) u (λ y. r ≡ right y) r
unit_by s u fits right r None e = e
unit_by s u fits right r (Some x) e = cases_by (is_defunct x.phase) (is_held s x && fits x) u right r x e

pub call_answered_by : (m : Plain) (s : ℕ) (u : UnitId) (fits : UnitRow → Bool) (right : UnitRow → Reply) (r : Reply) → r ≡ option_map_or (λ x. unwrap_or (turned_away s u (fits x) x) (right x)) (slice_get m.units u.0) (WrongPhase u) → AnswersCall (called m s u fits) u (λ y. r ≡ right y) r
call_answered_by m s u fits right r e = unit_by s u fits right r (slice_get m.units u.0) e
