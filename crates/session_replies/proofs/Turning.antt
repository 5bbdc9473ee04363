-- Calls that aren't right, and how each is answered.
use Rattle.std.proofs.Common.{◌≡◌, ℕ, inl, inr, Bool, true, false, List, slice_get, Option, Some, None, option_map, refl, ap, sym, subst, ◌∙◌}
use Rattle.std.specs.Prelude.{◌&&◌, IfSome, IfNone, if◌then◌else◌}
use Rattle.std.specs.Option.{option_map_or}
use Rattle.std.proofs.lemmas.Bool.{and_parts}
use Rattle.std.proofs.lemmas.Option.{none-some, same_Some}
use Rattle.session_model.proofs.Phases.{defunct_stage}
use Rattle.orc_ids.specs.declared.groups.Group.{Group}
use Rattle.orc_ids.specs.declared.ids.UnitId.{UnitId}
use Rattle.orc_ids.specs.declared.place.Shape.{Shape}
use Rattle.session_model.specs.Meaning.{Meaning}
use Rattle.session_model.specs.Plain.{Plain, UnitRow, is_defunct}
use Rattle.session_model.specs.Answer.{Answers, AnswersCall, Called, Gone, Wrong, Right, called, is_held}
use Rattle.session_model.specs.declared.entry.Entry.{Entry}
use Rattle.session_model.specs.declared.entry.Event.TheVariants as event
use Rattle.session_model.specs.declared.entry.Reply.{Reply}
use Rattle.session_model.specs.declared.entry.Reply.TheVariants as reply
use Rattle.session_model.specs.declared.entry.Why.{Why}
use Rattle.session_model.specs.declared.rows.UnitPhase.TheVariants as stage
use Rattle.mat_unit.specs.declared.unit.Unit.{Unit as OneUnit}
use Rattle.mat_unit.specs.Rows.{unit_row}
use Rattle.session_parts.specs.Units.{AreUnits, tracker_at}
use Rattle.session_replies.specs.declared.calls.Call.{Call}
use Rattle.session_replies.specs.declared.calls.Call.TheVariants as call
use Rattle.session_replies.specs.Turned.{fits, seen, turned_away, wrong_call, IsTurned, IsTurnedFrom}
use Rattle.session_replies.proofs.Refusing.{if_some, if_none}

-- which tracker the unit is of plays no part
fits_seen : {U : Type 0} (means : U → Meaning) (t : ℕ) (c : Call) (x : OneUnit U) → fits c (seen means x) ≡ fits c (unit_row means t x)
fits_seen means t call.Place x = refl
fits_seen means t call.Resolve x = refl
fits_seen means t call.Link x = refl
fits_seen means t call.Emit x = refl
fits_seen means t call.Fail x = refl

pub wrong_seen : {U : Type 0} (means : U → Meaning) (s : ℕ) (u : UnitId) (c : Call) (kept : List (OneUnit U)) (m : Plain) → AreUnits means kept m.units m.trackers → wrong_call s u (fits c) (option_map (seen means) (slice_get kept u.0)) ≡ wrong_call s u (fits c) (slice_get m.units u.0)
wrong_seen {U} means s u c kept m a = split (tracker_at m.units u.0) (slice_get kept u.0) ∙ sym (ap (wrong_call s u (fits c)) (a.rows u.0))
  where
    split : (t : ℕ) (o : Option (OneUnit U)) → wrong_call s u (fits c) (option_map (seen means) o) ≡ wrong_call s u (fits c) (option_map (unit_row means t) o)
    split t None = refl
    split t (Some x) = ap (λ b. turned_away s u b (unit_row means t x)) (fits_seen means t c x)

-- how it is called, by the tests
abbrev called_by : Bool → Bool → UnitRow → Called
called_by gone right x = if gone then Gone else (if right then Right x else Wrong)

turned_cases : (gone right : Bool) (u : UnitId) (x : UnitRow) (r : Reply) → (if gone then Some (reply.Defunct u) else (if right then None else Some (reply.WrongPhase u))) ≡ Some r → IsTurnedFrom (called_by gone right x) u r
turned_cases true right u x r e = inl (refl, sym (same_Some (reply.Defunct u) r e))
turned_cases false true u x r e = absurd (none-some r e)
turned_cases false false u x r e = inr (refl, sym (same_Some (reply.WrongPhase u) r e))

right_cases : (gone right : Bool) (u : UnitId) (x : UnitRow) → (if gone then Some (reply.Defunct u) else (if right then None else Some (reply.WrongPhase u))) ≡ None → (y : UnitRow) × (called_by gone right x ≡ Right y)
right_cases true right u x e = absurd (none-some (reply.Defunct u) (sym e))
right_cases false true u x e = (x, refl)
right_cases false false u x e = absurd (none-some (reply.WrongPhase u) (sym e))

pub call_turned : (m : Plain) (s : ℕ) (u : UnitId) (fit : UnitRow → Bool) (o : Option Reply) → o ≡ wrong_call s u fit (slice_get m.units u.0) → IfSome o (IsTurned m s u fit)
call_turned m s u fit o is = if_some (IsTurned m s u fit) o (λ r here. split (slice_get m.units u.0) r (sym is ∙ here))
  where
    split : (found : Option UnitRow) (r : Reply) → wrong_call s u fit found ≡ Some r → IsTurnedFrom (option_map_or (λ x. called_by (is_defunct x.phase) (is_held s x && fit x) x) found Wrong) u r
    split None r e = inr (refl, sym (same_Some (reply.WrongPhase u) r e))
    split (Some x) r e = turned_cases (is_defunct x.phase) (is_held s x && fit x) u x r e

pub call_right : (m : Plain) (s : ℕ) (u : UnitId) (fit : UnitRow → Bool) (o : Option Reply) → o ≡ wrong_call s u fit (slice_get m.units u.0) → IfNone o ((x : UnitRow) × (called m s u fit ≡ Right x))
call_right m s u fit o is = if_none o (λ n. split (slice_get m.units u.0) (sym is ∙ n))
  where
    split : (found : Option UnitRow) → wrong_call s u fit found ≡ None → (x : UnitRow) × (option_map_or (λ x. called_by (is_defunct x.phase) (is_held s x && fit x) x) found Wrong ≡ Right x)
    split None e = absurd (none-some (reply.WrongPhase u) (sym e))
    split (Some x) e = right_cases (is_defunct x.phase) (is_held s x && fit x) u x e

-- The answer of each call that isn't right, for every journal

answers_turned : (c : Called) (u : UnitId) (P : UnitRow → Type 0) (r : Reply) → IsTurnedFrom c u r → AnswersCall c u P r
answers_turned c u P r (inl t) = subst (λ d. AnswersCall d u P r) (sym t.0) t.1
answers_turned c u P r (inr t) = subst (λ d. AnswersCall d u P r) (sym t.0) t.1

pub place_turned : (m : Plain) (s : ℕ) (u : UnitId) (shape : Shape) (r : Reply) → IsTurned m s u (fits call.Place) r → (jmax : ℕ) (past : List (Entry Meaning)) → Answers jmax past m s (event.Place u shape) r
place_turned m s u shape r t jmax past = answers_turned (called m s u (fits call.Place)) u _ r t

pub resolve_turned : (m : Plain) (s : ℕ) (u : UnitId) (r : Reply) → IsTurned m s u (fits call.Resolve) r → (jmax : ℕ) (past : List (Entry Meaning)) → Answers jmax past m s (event.Resolve u) r
resolve_turned m s u r t jmax past = answers_turned (called m s u (fits call.Resolve)) u _ r t

pub link_turned : (m : Plain) (s : ℕ) (u : UnitId) (r : Reply) → IsTurned m s u (fits call.Link) r → (jmax : ℕ) (past : List (Entry Meaning)) → Answers jmax past m s (event.Link u) r
link_turned m s u r t jmax past = answers_turned (called m s u (fits call.Link)) u _ r t

pub emit_turned : (m : Plain) (s : ℕ) (u : UnitId) (groups : List Group) (r : Reply) → IsTurned m s u (fits call.Emit) r → (jmax : ℕ) (past : List (Entry Meaning)) → Answers jmax past m s (event.Emit u groups) r
emit_turned m s u groups r t jmax past = answers_turned (called m s u (fits call.Emit)) u _ r t

pub fail_turned : (m : Plain) (s : ℕ) (u : UnitId) (why : Why) (r : Reply) → IsTurned m s u (fits call.Fail) r → (jmax : ℕ) (past : List (Entry Meaning)) → Answers jmax past m s (event.Fail u why) r
fail_turned m s u why r t jmax past = answers_turned (called m s u (fits call.Fail)) u _ r t

-- Defunct is told of a unit that is gone, which is there
pub told_gone : (m : Plain) (s : ℕ) (u v : UnitId) (fit : UnitRow → Bool) → IsTurned m s u fit (reply.Defunct v) → called m s u fit ≡ Gone
told_gone m s u v fit (inl t) = t.0
told_gone m s u v fit (inr t) = absurd cc

pub gone_unit : (m : Plain) (s : ℕ) (u : UnitId) (fit : UnitRow → Bool) → called m s u fit ≡ Gone → (x : UnitRow) × (slice_get m.units u.0 ≡ Some x) × (x.phase ≡ stage.Defunct)
gone_unit m s u fit e = split (slice_get m.units u.0) refl e
  where
    tested : (gone right : Bool) (x : UnitRow) → called_by gone right x ≡ Gone → gone ≡ true
    tested true right x f = refl
    tested false true x f = absurd cc
    tested false false x f = absurd cc

    split : (found : Option UnitRow) → slice_get m.units u.0 ≡ found → option_map_or (λ x. called_by (is_defunct x.phase) (is_held s x && fit x) x) found Wrong ≡ Gone → (x : UnitRow) × (slice_get m.units u.0 ≡ Some x) × (x.phase ≡ stage.Defunct)
    split None at f = absurd cc
    split (Some x) at f = (x, at, defunct_stage x.phase (tested (is_defunct x.phase) (is_held s x && fit x) x f))

-- a unit at which the call is right is there, held by the seat, and at the phase of the call
pub right_unit : (m : Plain) (s : ℕ) (u : UnitId) (fit : UnitRow → Bool) (x : UnitRow) → called m s u fit ≡ Right x → (slice_get m.units u.0 ≡ Some x) × (is_held s x ≡ true) × (fit x ≡ true)
right_unit m s u fit x e = split (slice_get m.units u.0) refl e
  where
    same : (y : UnitRow) → Right y ≡ Right x → y ≡ x
    same y f = cc

    tested : (gone right : Bool) (y : UnitRow) → called_by gone right y ≡ Right x → (right ≡ true) × (y ≡ x)
    tested true right y f = absurd cc
    tested false true y f = (refl, same y f)
    tested false false y f = absurd cc

    split : (found : Option UnitRow) → slice_get m.units u.0 ≡ found → option_map_or (λ x. called_by (is_defunct x.phase) (is_held s x && fit x) x) found Wrong ≡ Right x → (slice_get m.units u.0 ≡ Some x) × (is_held s x ≡ true) × (fit x ≡ true)
    split None at f = absurd cc
    split (Some y) at f = let t = tested (is_defunct y.phase) (is_held s y && fit y) y f in let parts = and_parts (is_held s y) (fit y) t.0 in
        (at ∙ ap Some t.1, subst (λ z. is_held s z ≡ true) t.1 parts.0, subst (λ z. fit z ≡ true) t.1 parts.1)
