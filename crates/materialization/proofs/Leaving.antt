-- Entries of other seats leave a job where it is.
use Rattle.std.proofs.Common.{◌≡◌, ℕ, true, false, List, ◌++◌, ◌⊎◌, inl, inr, refl, ap, ◌∙◌}
use Rattle.std.proofs.lemmas.Bool.{cases_Bool}
use Rattle.session_model.proofs.Phases.{defunct_stage}
use Rattle.orc_ids.specs.declared.ids.UnitId.{UnitId}
use Rattle.session_model.specs.Meaning.{Meaning}
use Rattle.session_model.specs.Plain.{UnitRow, is_defunct}
use Rattle.session_model.specs.State.{state}
use Rattle.session_model.specs.History.{IsLegal, HasPlaces}
use Rattle.session_model.specs.declared.entry.Entry.{Entry}
use Rattle.session_model.specs.declared.rows.UnitPhase.TheVariants as phase
use Rattle.session_laws.specs.Holding.{AllOthers, IsKept, OwnSame}
use Rattle.session_laws.proofs.Declared.{held_stays, gone_stays_held}
use Rattle.history_laws.proofs.Calling.{fail_stays}
use Rattle.history_laws.proofs.Giving.{GivesNone, others_seat_none}
use Rattle.materialization.specs.Rest.{IsAt, Has, fits}
use Rattle.materialization.specs.Laws.{HasReason, OthersLeaveAJob}
use Rattle.materialization.specs.declared.stage.Stage.{Stage}
use Rattle.materialization.specs.declared.stage.Stage.TheVariants as stage
use Rattle.materialization.proofs.Seats.{has_moved, none_kept, only_kept}

-- no stage depends on the unit's tracker
fits_moved : (at : Stage) (x : UnitRow) (t : ℕ) → fits at (record x { tracker = t }) ≡ fits at x
fits_moved stage.Place x t = refl
fits_moved stage.Resolve x t = refl
fits_moved stage.Link x t = refl
fits_moved (stage.Generate g) x t = refl
fits_moved stage.ResolveAlias x t = refl
fits_moved stage.Emit x t = refl
fits_moved (stage.Fail why) x t = refl
fits_moved stage.Over x t = refl

at_stays : (jmax : ℕ) (h more : List (Entry Meaning)) → IsLegal jmax (h ++ more) → (s u : ℕ) → AllOthers s more → (at : Stage) → IsAt (state h) s u at → IsAt (state (h ++ more)) s u at
at_stays jmax h more l s u o at b = split (cases_Bool (is_defunct b.unit.phase))
  where
    split : (is_defunct b.unit.phase ≡ true) ⊎ (is_defunct b.unit.phase ≡ false) → IsAt (state (h ++ more)) s u at
    split (inl d) = let y = gone_stays_held jmax h more l s u b.unit b.there b.seat (defunct_stage b.unit.phase d) o in
        record { unit = y.0; there = y.1; seat = y.3; how = inl (ap is_defunct y.2) }
    split (inr d) = record { unit = y.unit; there = y.there; seat = y.seat ∙ b.seat; how = how y.how b.how }
      where
        y : IsKept (state h) (state (h ++ more)) u b.unit
        y = held_stays jmax h more l s u b.unit b.there b.seat d o

        how : (y.unit.phase ≡ phase.Defunct) ⊎ ((y.unit ≡ record (b.unit) { tracker = y.unit.tracker }) × OwnSame (state h).rows (state (h ++ more)).rows u) → (is_defunct b.unit.phase ≡ true) ⊎ (fits at b.unit ≡ true) → (is_defunct y.unit.phase ≡ true) ⊎ (fits at y.unit ≡ true)
        how (inl e) f = inl (ap is_defunct e)
        how (inr e) (inl f) = inl (ap (λ (z : UnitRow). is_defunct z.phase) e.0 ∙ f)
        how (inr e) (inr f) = inr (ap (fits at) e.0 ∙ (fits_moved at b.unit y.unit.tracker ∙ f))

reason_stays : (jmax : ℕ) (h more : List (Entry Meaning)) → IsLegal jmax (h ++ more) → HasPlaces jmax (h ++ more) → (s : ℕ) (u : UnitId) → AllOthers s more → (at : Stage) → HasReason jmax h s u at → HasReason jmax (h ++ more) s u at
reason_stays jmax h more l places s u o (stage.Fail why) c = fail_stays jmax s u why h more l places o c
reason_stays jmax h more l places s u o stage.Place c = c
reason_stays jmax h more l places s u o stage.Resolve c = c
reason_stays jmax h more l places s u o stage.Link c = c
reason_stays jmax h more l places s u o (stage.Generate g) c = c
reason_stays jmax h more l places s u o stage.ResolveAlias c = c
reason_stays jmax h more l places s u o stage.Emit c = c
reason_stays jmax h more l places s u o stage.Over c = c

pub others_leave_has : (jmax : ℕ) (h more : List (Entry Meaning)) → IsLegal jmax (h ++ more) → (s u : ℕ) → AllOthers s more → (at : Stage) → Has (state h) s u at → Has (state (h ++ more)) s u at
others_leave_has jmax h more l s u o at has = has_moved (state h) (state (h ++ more)) s u (none_kept (state h) (state (h ++ more)) s given) (at_stays jmax h more l s u o) (only_kept (state h) (state (h ++ more)) s u given) at has
  where
    given : GivesNone s (state h).units (state (h ++ more)).units
    given = others_seat_none jmax s h more l o

pub others_leave_a_job : OthersLeaveAJob
others_leave_a_job jmax h more s u at l places o has reason = record { has = others_leave_has jmax h more l s u.0 o at has; reason = reason_stays jmax h more l places s u o at reason }
