-- No instance of a unit is emitted while work on the unit goes on.
use Rattle.std.proofs.Common.{◌≡◌, ℕ, true, ◌==◌, slice_get, Some, ap, sym, subst, ◌∙◌}
use Rattle.std.proofs.lemmas.Bool.{and_parts, eqb-true}
use Rattle.session_model.specs.Plain.{Plain, UnitRow}
use Rattle.session_model.specs.declared.rows.UnitPhase.TheVariants as stage
use Rattle.session_laws.specs.Sound.{IsSound, is_held_phase, fits, row_stage}
use Rattle.session_laws.proofs.Declared.{same_element, held_unemitted, held_row}
use Rattle.instances.specs.Graph.{NoneEmitted}

-- at any phase at which a seat holds it
pub unemitted_held : (m : Plain) (u : ℕ) (x : UnitRow) → IsSound m → slice_get m.units u ≡ Some x → is_held_phase x.phase ≡ true → NoneEmitted u m.rows
unemitted_held m u x sound e held = λ i r t own.
    let parts = and_parts r.present (r.unit.0 == u) own in
    let fit = (sound.rows_fit i r t).here parts.0 in
    let same = same_element (slice_get m.units u) fit.0 x (ap (slice_get m.units) (sym (eqb-true r.unit.0 u parts.1)) ∙ fit.1) e in
    held_unemitted (row_stage x) r.phase (held_row x held) (subst (λ (y : UnitRow). fits (row_stage y) r.phase ≡ true) same fit.2)

-- as before its last step
pub unemitted_finishing : (m : Plain) (u : ℕ) (x : UnitRow) → IsSound m → slice_get m.units u ≡ Some x → x.phase ≡ stage.Finishing → NoneEmitted u m.rows
unemitted_finishing m u x sound e p = unemitted_held m u x sound e (ap is_held_phase p)
