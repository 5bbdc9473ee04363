-- Emits of units: what is so of one that may be emitted, and a dependency that is refused.
use Rattle.std.proofs.Common.{◌≡◌, ℕ, Bool, true, List, [], slice_get, Option, Some, None, refl, ap, sym, subst, ◌∙◌}
use Rattle.std.specs.Prelude.{◌&&◌, ◌||◌, not, flat_map, is_some, unwrap_or, IsPermutation}
use Rattle.std.proofs.lemmas.Bool.{and_parts}
use Rattle.orc_ids.specs.declared.groups.Group.{Group}
use Rattle.orc_ids.specs.declared.ids.InstId.{InstId}
use Rattle.orc_ids.specs.declared.ids.SeatNo.{SeatNo}
use Rattle.orc_ids.specs.declared.ids.UnitId.{UnitId}
use Rattle.session_model.specs.Lists.{only_if}
use Rattle.session_model.specs.Meaning.{Meaning, Bindings, IsLawful}
use Rattle.session_model.specs.Plain.{Plain, UnitRow, own_rows, is_alias, failed_at, present_at, unsearched_at}
use Rattle.session_model.specs.Answer.{AnswersEmit, Right, bad_dep, called, can_emit, is_stage}
use Rattle.session_model.specs.Change.{change_of}
use Rattle.session_model.specs.Memory.{unit_image}
use Rattle.session_model.specs.declared.change.Change.TheVariants as change
use Rattle.session_model.specs.declared.entry.Event.TheVariants as event
use Rattle.session_model.specs.declared.entry.Reply.{Reply}
use Rattle.session_model.specs.declared.entry.Reply.TheVariants as reply
use Rattle.session_model.specs.declared.rows.UnitPhase.TheVariants as stage
use Rattle.session_laws.proofs.Declared.{AllReplies, replies_first, replies_only, emittable}
use Rattle.session_parts.specs.declared.parts.Parts.{Parts}
use Rattle.session_replies.proofs.Turning.{right_unit}
use Rattle.session_steps.specs.Finish.{IsFinish, UnitFits}
use Rattle.session_steps.specs.Moved.{HandsInLawful}
use Rattle.session_steps.specs.Stands.{Stands}
use Rattle.session_steps.specs.Steps.{IsTellingStep}
use Rattle.session_steps.proofs.Standing.{goes_by}
use Rattle.session_steps.proofs.RightCalls.{right_alive, right_answer}

-- A unit that may be emitted

is_bound : (x : UnitRow) → can_emit x ≡ true → is_some x.bound ≡ true
is_bound x e = (and_parts (is_stage stage.Finishing x.phase) (is_some x.bound) (and_parts (is_stage stage.Finishing x.phase && is_some x.bound) (not (is_alias x) || is_some x.base) e).0).1

there : (o : Option Bindings) → is_some o ≡ true → (b : Bindings) × (o ≡ Some b)
there None e = absurd cc
there (Some b) e = (b, refl)

-- what the change asks for
pub may_emit : (m : Plain) (s : ℕ) (u : UnitId) (x : UnitRow) (bytes : List ℕ) (groups : List Group) → called m s u can_emit ≡ Right x → IsLawful x.meaning → IsFinish m u x groups bytes → (y : UnitRow) × (slice_get m.units u.0 ≡ Some y) × (y.phase ≡ stage.Finishing) × IsLawful y.meaning × (bytes ≡ unit_image y)
may_emit m s u x bytes groups e lawful f = let unit = right_unit m s u can_emit x e in (x, unit.0, emittable x unit.2, lawful, f.image)

-- each of its instances is a member of the groups once
pub members_once : (m : Plain) (s : ℕ) (u : UnitId) (x : UnitRow) (bytes : List ℕ) (groups : List Group) → called m s u can_emit ≡ Right x → IsLawful x.meaning → UnitFits m u → IsFinish m u x groups bytes → IsPermutation (flat_map (λ (g : Group). g.members) groups) (own_rows u.0 0 m.rows)
members_once m s u x bytes groups e lawful fits f =
    let unit = right_unit m s u can_emit x e in
    let bound = there x.bound (is_bound x unit.2) in
    subst (λ gs. IsPermutation (flat_map (λ (g : Group). g.members) gs) (own_rows u.0 0 m.rows))
    (sym (f.groups_are ∙ ap (λ b. x.meaning.groups x.live (unwrap_or x.base 0) (unwrap_or b []) (own_rows u.0 0 m.rows)) bound.1))
    (lawful.members x.live (unwrap_or x.base 0) bound.0 (own_rows u.0 0 m.rows) (fits x bound.0 unit.0 (right_alive m s u can_emit x e) bound.1))

-- The refusal

-- a dependency that can't be depended on changes nothing
bad_changes_nothing : (m : Plain) (s : ℕ) (u : UnitId) (groups : List Group) (r : Reply) → bad_dep m.rows groups ≡ Some r → change_of m s (event.Emit u groups) r ≡ change.Nothing
bad_changes_nothing m s u groups r e = subst (AllReplies (λ q. change_of m s (event.Emit u groups) q ≡ change.Nothing)) e
    (replies_first (λ q. change_of m s (event.Emit u groups) q ≡ change.Nothing) (λ (i : InstId). only_if (is_bad i) (reply.BadDep i))
    (λ i. replies_only (λ q. change_of m s (event.Emit u groups) q ≡ change.Nothing) (is_bad i) (reply.BadDep i) refl) (flat_map (λ (g : Group). g.deps) groups))
  where
    is_bad : InstId → Bool
    is_bad i = failed_at m.rows i.0 || not (present_at m.rows i.0) || unsearched_at m.rows i.0

pub bad_step : {U N : Type 0} (means : U → Meaning) (m : Plain) (s : SeatNo) (u : UnitId) (groups : List Group) (bytes : List ℕ) (x : UnitRow) (r : Reply) (p : Parts U N) → Stands means m p → called m s.0 u can_emit ≡ Right x → bad_dep m.rows groups ≡ Some r → IsFinish m u x groups bytes → IsTellingStep means m s.0 (event.Emit u groups) r p p
bad_step means m s u groups bytes x r p at right bad f = record {
  step = record {
    answered = λ jmax past l ends. right_answer (called m s.0 u can_emit) u (λ y. AnswersEmit m u.0 groups y r) r x right (f.groups_are, f.allowed, ap (λ o. unwrap_or o reply.Emitted) (sym bad));
    goes = goes_by means m s.0 (event.Emit u groups) r change.Nothing p p is at.parts refl refl refl at.queries;
    lawful = subst HandsInLawful (sym is) tt;
  };
  book = refl;
}
  where
    is : change_of m s.0 (event.Emit u groups) r ≡ change.Nothing
    is = bad_changes_nothing m s.0 u groups r bad
