-- What a stage is: its calls, the unit that it is for, and the entries that it begins.
use Rattle.std.specs.Prelude.{◌≡◌, ◌⊎◌, ℕ, Bool, true, false, ◌&&◌, not, List, [], ◌∷◌, slice_get, Option, Some}
use Rattle.orc_ids.specs.declared.ids.GenId.{GenId}
use Rattle.orc_ids.specs.declared.ids.UnitId.{UnitId}
use Rattle.session_model.specs.Meaning.{Meaning, Refusal}
use Rattle.session_model.specs.Plain.{Plain, UnitRow, is_alias, is_defunct}
use Rattle.session_model.specs.Answer.{can_place, can_resolve, can_link, can_emit}
use Rattle.session_model.specs.Calls.{IsFail, IsCut, Links, Resolves, Places, Emits, is_place, is_emit}
use Rattle.session_model.specs.declared.entry.Entry.{Entry}
use Rattle.session_model.specs.declared.entry.Event.{Event}
use Rattle.session_model.specs.declared.entry.Event.TheVariants as event
use Rattle.materialization.specs.declared.stage.Stage.{Stage}
use Rattle.materialization.specs.declared.stage.Stage.TheVariants as stage

-- the event is the stage's call on the unit
abbrev pub IsCall : UnitId → Stage → Event Meaning → Type 0
IsCall u stage.Place e = is_place u e ≡ true
IsCall u stage.Resolve e = e ≡ event.Resolve u
IsCall u stage.Link e = e ≡ event.Link u
IsCall u (stage.Generate g) e = e ≡ event.Generate g
IsCall u stage.ResolveAlias e = e ≡ event.Resolve u
IsCall u stage.Emit e = is_emit u e ≡ true
IsCall u (stage.Fail why) e = e ≡ event.Fail u why
IsCall u stage.Over e = ⊥

-- the unit's row is at the call's phase
abbrev pub fits : Stage → UnitRow → Bool
fits stage.Place x = can_place x
fits stage.Resolve x = can_resolve x && not (is_alias x)
fits stage.Link x = can_link x
fits (stage.Generate g) x = can_link x
fits stage.ResolveAlias x = can_resolve x && is_alias x
fits stage.Emit x = can_emit x
fits (stage.Fail why) x = true
fits stage.Over x = false

-- the seat has the unit at the stage, unless it was removed
pub record IsAt (m : Plain) (s u : ℕ) (at : Stage) : Type 0 where
  pub unit : UnitRow
  pub there : slice_get m.units u ≡ Some unit
  pub seat : unit.seat ≡ Some s
  pub how : (is_defunct unit.phase ≡ true) ⊎ (fits at unit ≡ true)

-- the seat holds no unit, or this one alone
abbrev pub HoldsNone : Plain → ℕ → Type 0
HoldsNone m s = (v : ℕ) (x : UnitRow) → slice_get m.units v ≡ Some x → x.seat ≡ Some s → ⊥

abbrev pub HoldsOnly : Plain → ℕ → ℕ → Type 0
HoldsOnly m s u = (v : ℕ) (x : UnitRow) → slice_get m.units v ≡ Some x → x.seat ≡ Some s → v ≡ u

-- at a stage the seat has just that unit; when the job is over it has none
abbrev pub Has : Plain → ℕ → ℕ → Stage → Type 0
Has m s u stage.Over = HoldsNone m s
Has m s u at = IsAt m s u at × HoldsOnly m s u

-- the generator is used, and the unit linked again
abbrev pub Generates : UnitId → GenId → List (Entry Meaning) → Type 0
Generates u g [] = ⊥
Generates u g (e ∷ es) = IsCut u (e ∷ es) ⊎ ((e.event ≡ event.Generate g) × Links u es)

-- the entries that a job has left at a stage, by its unit's first edge that is out of range
abbrev pub Rest : UnitId → Option Refusal → Stage → List (Entry Meaning) → Type 0
Rest u refusal stage.Place es = Places u es
Rest u refusal stage.Resolve es = Resolves (Links u) u es
Rest u refusal stage.Link es = Links u es
Rest u refusal (stage.Generate g) es = Generates u g es
Rest u refusal stage.ResolveAlias es = Resolves (Emits u refusal) u es
Rest u refusal stage.Emit es = Emits u refusal es
Rest u refusal (stage.Fail why) es = IsFail u why es
Rest u refusal stage.Over es = es ≡ []
