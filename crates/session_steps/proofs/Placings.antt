-- A unit that is placed: the answers, and the steps.
use Rattle.std.proofs.Common.{◌≡◌, ℕ, ◌<◌, ◌^◌, List, slice_get, subst, sym, refl, ap, Some, None}
use Rattle.std.specs.Prelude.{IfSome, is_some}
use Rattle.std.specs.Int.{IsPowerOfTwo}
use Rattle.std.proofs.lemmas.Bool.{and_parts}
use Rattle.session_model.proofs.Phases.{started_stage}
use Rattle.orc_ids.specs.declared.ids.UnitId.{UnitId}
use Rattle.orc_ids.specs.declared.place.Shape.{Shape}
use Rattle.session_model.specs.Meaning.{Meaning, IsLawful}
use Rattle.session_model.specs.Plain.{Plain, UnitRow, unit_shape, is_alias}
use Rattle.session_model.specs.Answer.{Answers, AnswersCall, AnswersPlace, Right, called, can_place, is_stage}
use Rattle.session_model.specs.Change.{placed}
use Rattle.session_model.specs.declared.change.Change.TheVariants as change
use Rattle.session_model.specs.declared.entry.Entry.{Entry}
use Rattle.session_model.specs.declared.entry.Event.TheVariants as event
use Rattle.session_model.specs.declared.entry.Reply.{Reply}
use Rattle.session_model.specs.declared.entry.Reply.TheVariants as reply
use Rattle.session_model.specs.declared.rows.UnitPhase.TheVariants as stage
use Rattle.session_laws.specs.Sound.{is_early}
use Rattle.session_laws.proofs.Declared.{chosen}
use Rattle.code_memory.specs.Places.{with_range, AreLaidOut, AreDistinct, IsLowestFree, IsFull, IsRefused}
use Rattle.code_memory.specs.declared.space.SpaceError.{SpaceError}
use Rattle.code_memory.specs.declared.space.SpaceError.TheVariants as space
use Rattle.session_parts.specs.declared.parts.Parts.{Parts}
use Rattle.session_parts.specs.Parts.{AreParts}
use Rattle.session_replies.proofs.Turning.{right_unit}
use Rattle.session_steps.specs.Handed.{IsLowest}
use Rattle.session_steps.specs.Stands.{Stands}
use Rattle.session_steps.specs.Steps.{IsQuietStep}
use Rattle.session_steps.proofs.FreeRanges.{distinct_among, free_here, free_there}
use Rattle.session_steps.proofs.Standing.{goes_by}

-- the place is right, and of the unit's shape
abbrev pub RightPlace : Plain → ℕ → UnitId → Shape → Type 0
RightPlace m s u shape = (x : UnitRow) × (called m s u can_place ≡ Right x) × (unit_shape x ≡ Some shape)

-- its unit
pub place_unit : {U N : Type 0} (means : U → Meaning) (m : Plain) (p : Parts U N) (s : ℕ) (u : UnitId) (shape : Shape) → Stands means m p → RightPlace m s u shape →
    (x : UnitRow) × (slice_get m.units u.0 ≡ Some x) × (x.phase ≡ stage.Started) × (x.base ≡ None) × (unit_shape x ≡ Some shape)
place_unit means m p s u shape at may =
    let its = right_unit m s u can_place may.0 may.1 in
    let phase = started_stage (may.0).phase (and_parts (is_stage stage.Started (may.0).phase) (is_some (unit_shape may.0)) its.2).0 in
    (may.0, its.0, phase, (at.sound.units_fit u.0 may.0 its.0).early (ap is_early phase), may.2)

-- the shape of a lawful unit
pub shape_right : {U N : Type 0} (means : U → Meaning) (m : Plain) (p : Parts U N) (s : ℕ) (u : UnitId) (shape : Shape) → Stands means m p → RightPlace m s u shape → (0 < shape.need) × IsPowerOfTwo shape.align
shape_right means m p s u shape at may =
    let its = right_unit m s u can_place may.0 may.1 in
    let lawful : IsLawful (may.0).meaning = at.lawful.units u.0 may.0 its.0 in
    let fits = chosen (λ o. o ≡ Some shape → IfSome (Some shape) (λ (s : Shape). (0 < s.need) × ((k : ℕ) × (s.align ≡ 2 ^ k)))) (is_alias may.0) None ((may.0).meaning.shape (may.0).live)
    (λ b h. absurd cc)
    (λ b h. subst (λ o. IfSome o (λ (s : Shape). (0 < s.need) × ((k : ℕ) × (s.align ≡ 2 ^ k)))) h (lawful.shape (may.0).live)) may.2 in
    (fits.0, fits.1)

place_answered : (m : Plain) (s : ℕ) (u : UnitId) (shape : Shape) (r : Reply) → RightPlace m s u shape → AnswersPlace m shape r → (jmax : ℕ) (past : List (Entry Meaning)) → Answers jmax past m s (event.Place u shape) r
place_answered m s u shape r may a jmax past = subst (λ c. AnswersCall c u (λ x. (unit_shape x ≡ Some shape) × AnswersPlace m shape r) r) (sym may.1) (may.2, a)

-- it gets the lowest free range
pub placed_step : {U N : Type 0} (means : U → Meaning) (m : Plain) (s : ℕ) (u : UnitId) (shape : Shape) (base : ℕ) (old new : Parts U N) → Stands means m old → RightPlace m s u shape → IsLowestFree old.space shape base →
    AreParts means new (placed u.0 base m) → new ≡ record old { units = new.units; space = new.space } → IsQuietStep means m s (event.Place u shape) (reply.Placed base) old new
placed_step {U} {N} means m s u shape base old new at may lowest parts rest = record {
  step = record {
    answered = λ jmax past leads ends. place_answered m s u shape (reply.Placed base) may (free_there m.units old.space shape base at.parts.kept.memory lowest.free) jmax past;
    goes = goes_by means m s (event.Place u shape) (reply.Placed base) (change.Place u base) old new refl parts (ap (λ (p : Parts U N). p.graph) rest) (ap (λ (p : Parts U N). p.book) rest) refl at.queries;
    lawful = tt;
  };
  quiet = refl;
  book = ap (λ (p : Parts U N). p.book) rest;
}

pub placed_lowest : {U N : Type 0} (means : U → Meaning) (m : Plain) (u : UnitId) (shape : Shape) (base : ℕ) (p : Parts U N) → Stands means m p → AreLaidOut (with_range p.space u shape base) → IsLowestFree p.space shape base → IsLowest m shape (reply.Placed base)
placed_lowest means m u shape base p at laid lowest = λ other free. lowest.lowest other (free_here m.units p.space shape other at.parts.kept.memory (distinct_among (record { unit = u; base = base; shape = shape; bytes = None }) p.space laid.distinct) free)

-- no base is free for it
pub full_step : {U N : Type 0} (means : U → Meaning) (m : Plain) (s : ℕ) (u : UnitId) (shape : Shape) (need : ℕ) (why : SpaceError) (old new : Parts U N) → Stands means m old → RightPlace m s u shape → why ≡ space.NoRoom need → IsRefused old.space shape why → new ≡ old → AreLaidOut new.space →
    IsQuietStep means m s (event.Place u shape) (reply.NoRoom need) old new
full_step {U} {N} means m s u shape need why old new at may is refused same laid = record {
  step = record {
    answered = λ jmax past leads ends. place_answered m s u shape (reply.NoRoom need) may (full.0, λ base free. full.1 base (free_here m.units old.space shape base at.parts.kept.memory distinct free)) jmax past;
    goes = goes_by means m s (event.Place u shape) (reply.NoRoom need) change.Nothing old new refl (subst (λ p. AreParts means p m) (sym same) at.parts) (ap (λ (p : Parts U N). p.graph) same) (ap (λ (p : Parts U N). p.book) same) refl at.queries;
    lawful = tt;
  };
  quiet = refl;
  book = ap (λ (p : Parts U N). p.book) same;
}
  where
    full : (need ≡ shape.need) × IsFull old.space shape
    full = subst (IsRefused old.space shape) is refused

    distinct : AreDistinct old.space
    distinct = subst (λ (p : Parts U N). AreDistinct p.space) same laid.distinct
