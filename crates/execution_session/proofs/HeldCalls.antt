-- What a taken unit says of the calls on it.
use Rattle.std.proofs.Common.{◌≡◌, ℕ, Bool, true, false, List, [], slice_get, Option, Some, None, is_some, unwrap_or, refl, ap, sym, subst, ◌∙◌}
use Rattle.std.specs.Bool.{if◌then◌else◌}
use Rattle.std.proofs.lemmas.Bool.{and_parts, both_ways}
use Rattle.orc_ids.specs.declared.ids.InstId.{InstId}
use Rattle.orc_ids.specs.declared.ids.UnitId.{UnitId}
use Rattle.orc_ids.specs.declared.place.Shape.{Shape}
use Rattle.session_model.specs.Meaning.{Meaning, Bindings}
use Rattle.session_model.specs.Plain.{Plain, UnitRow, is_alias, own_rows, unit_shape}
use Rattle.session_model.specs.Answer.{called, Right, can_emit, can_place, is_stage}
use Rattle.session_model.specs.declared.rows.UnitPhase.TheVariants as stage
use Rattle.session_laws.proofs.Declared.{same_element}
use Rattle.session_replies.proofs.Turning.{right_unit}
use Rattle.session_steps.specs.Finish.{IsFinish}
use Rattle.execution_session.specs.Holding.{IsFinished, own_shape}
use Rattle.session_steps.specs.Taken.{IsUnitOf}
use Rattle.execution_session.specs.declared.holding.Finished.{Finished}
use Rattle.session_steps.specs.declared.jobs.TakenUnit.{TakenUnit}

some_or : {X : Type 0} (o : Option X) (d : X) → is_some o ≡ true → o ≡ Some (unwrap_or o d)
some_or None d e = absurd (both_ways false refl e)
some_or (Some x) d e = refl

-- what needs memory is no alias
needs_some : (b : Bool) (o : Option Shape) → is_some (if b then None else o) ≡ true → (if b then None else o) ≡ o
needs_some true o e = absurd (both_ways false refl e)
needs_some false o e = refl

-- its own shape is the one that it is placed in
pub places_itself : {U : Type 0} (means : U → Meaning) (m : Plain) (s : ℕ) (u : UnitId) (taken : TakenUnit U) (x : UnitRow) → IsUnitOf means m u taken → called m s u can_place ≡ Right x → unit_shape x ≡ Some (own_shape means taken)
places_itself means m s u taken x k right =
    let r = right_unit m s u can_place x right in
    let same : k.unit ≡ x = same_element (slice_get m.units u.0) k.unit x k.there r.0 in
    let needs = (and_parts (is_stage stage.Started x.phase) (is_some (unit_shape x)) r.2).1 in
    let shape : (means taken.share).shape taken.live ≡ unit_shape x =
    ap (λ (v : Meaning). v.shape taken.live) k.share ∙ ap (λ l. k.unit.meaning.shape l) k.live ∙ ap (λ (y : UnitRow). y.meaning.shape y.live) same
    ∙ sym (needs_some (is_alias x) (x.meaning.shape x.live) needs) in
    some_or (unit_shape x) (record { need = 0; align = 1 }) needs
    ∙ ap (λ (o : Option Shape). Some (unwrap_or o (record { need = 0; align = 1 }))) (sym shape)

as_unit : (v w : Meaning) (live flags : List Bool) (base at : ℕ) (bound found : Bindings) (own mine : List InstId) (made : Finished) → v ≡ w → live ≡ flags → base ≡ at → bound ≡ found → own ≡ mine → IsFinished v live base bound own made → IsFinished w flags at found mine made
as_unit v w live flags base at bound found own mine made unit e f g h k =
    subst (λ z. IsFinished w flags at found z made) h (subst (λ z. IsFinished w flags at z own made) g (subst (λ z. IsFinished w flags z bound own made) f
    (subst (λ z. IsFinished w z base bound own made) e (subst (λ z. IsFinished z live base bound own made) unit k))))

-- what is made of the taken unit is made of the unit of this number
finished_as : {U : Type 0} (means : U → Meaning) (m : Plain) (u : UnitId) (taken : TakenUnit U) (bound found : Bindings) (made : Finished) (x : UnitRow) (k : IsUnitOf means m u taken) → k.unit ≡ x → bound ≡ found →
    IsFinished (means taken.share) taken.live (unwrap_or taken.base 0) bound taken.instances made → IsFinished x.meaning x.live (unwrap_or x.base 0) found (own_rows u.0 0 m.rows) made
finished_as means m u taken bound found made x k same e finished =
    as_unit (means taken.share) x.meaning taken.live x.live (unwrap_or taken.base 0) (unwrap_or x.base 0) bound found taken.instances (own_rows u.0 0 m.rows) made
    (k.share ∙ ap (λ (y : UnitRow). y.meaning) same) (k.live ∙ ap (λ (y : UnitRow). y.live) same) (ap (λ o. unwrap_or o 0) (k.base ∙ ap (λ (y : UnitRow). y.base) same)) e k.instances finished

-- its own groups and bytes are those that it is emitted with
pub finishes_itself : {U : Type 0} (means : U → Meaning) (m : Plain) (s : ℕ) (u : UnitId) (taken : TakenUnit U) (bound : Bindings) (made : Finished) (x : UnitRow) → IsUnitOf means m u taken →
    ((y : UnitRow) → slice_get m.units u.0 ≡ Some y → y.bound ≡ Some bound) → IsFinished (means taken.share) taken.live (unwrap_or taken.base 0) bound taken.instances made → called m s u can_emit ≡ Right x → IsFinish m u x made.groups made.bytes
finishes_itself means m s u taken bound made x k is finished right =
    let r = right_unit m s u can_emit x right in
    let same : k.unit ≡ x = same_element (slice_get m.units u.0) k.unit x k.there r.0 in
    let f = finished_as means m u taken bound (unwrap_or x.bound []) made x k same (sym (ap (λ (o : Option Bindings). unwrap_or o []) (is x r.0))) finished in
    record { groups_are = f.groups_are; allowed = f.allowed; image = f.image }
