-- The history of a script's session: seat 0 sets up, the clients have the seats from 1 on, and workers those behind them.
use Rattle.std.specs.Prelude.{◌≡◌, ℕ, ◌+◌, ◌<◌, ◌≤◌, List, [], ◌++◌, length, map, take, slice_get, All, Option, Some, None}
use Rattle.orc_ids.specs.declared.lookup.Stop.{Stop}
use Rattle.session_model.specs.Calls.{numbered_calls}
use Rattle.session_model.specs.History.{HasPlaces, IsLegal}
use Rattle.session_model.specs.Meaning.{Meaning}
use Rattle.session_model.specs.Plain.{kept}
use Rattle.session_model.specs.State.{state}
use Rattle.session_model.specs.declared.entry.Entry.{Entry}
use Rattle.session_model.specs.declared.entry.Event.{Event}
use Rattle.run_laws.specs.Ended.{IsCauseIn, PlacesAreLowest}
use Rattle.run_laws.specs.Runs.{AreJobs}
use Rattle.script_model.specs.Asking.{Line, Script}
use Rattle.script_model.specs.Lines.{AreLines, AreSkipped}
use Rattle.script_model.specs.declared.line_end.LineEnd.{LineEnd}
use Rattle.script_model.specs.declared.line_end.LineEnd.TheVariants.{Stopped}

-- these events were called, in order
abbrev pub AreCalled : List (Event Meaning) → List (Entry Meaning) → Type 0
AreCalled events es = map (λ (e : Entry Meaning). e.event) es ≡ events

-- each client's seat made the calls of its lines, which ended so; and where a line was stopped the journal was full, or memory was wanted
pub record ClientsRan (jmax : ℕ) (clients : List (List Line)) (ends : List (List LineEnd)) (h : List (Entry Meaning)) : Type 0 where
  pub count : length ends ≡ length clients
  pub each : (k : ℕ) (lines : List Line) (its : List LineEnd) → slice_get clients k ≡ Some lines → slice_get ends k ≡ Some its → AreLines h [] lines its (numbered_calls (1 + k) 1 h)
  pub causes : (k i : ℕ) (its : List LineEnd) (st : Stop) → slice_get ends k ≡ Some its → slice_get its i ≡ Some (Stopped st) → IsCauseIn jmax h st

-- no client was run
pub record NoClientRan (clients : List (List Line)) (ends : List (List LineEnd)) : Type 0 where
  pub count : length ends ≡ length clients
  pub each : (k : ℕ) (lines : List Line) (its : List LineEnd) → slice_get clients k ≡ Some lines → slice_get ends k ≡ Some its → AreSkipped lines its

-- The set-up was done, and then the clients ran; or a call of it was stopped, and nothing came after it.
pub data Went (jmax : ℕ) (script : Script) (ends : List (List LineEnd)) (h setup later : List (Entry Meaning)) : Option Stop → Type 0 where
  Whole : AreCalled script.set_up setup → ClientsRan jmax script.clients ends h → Went jmax script ends h setup later None
  InSetUp : (n : ℕ) (st : Stop) → n < length script.set_up → AreCalled (take n script.set_up) setup → later ≡ [] → IsCauseIn jmax h st → NoClientRan script.clients ends → Went jmax script ends h setup later (Some st)

-- The history of a script's session with so many workers. In the end no seat holds a unit, whatever was stopped.
pub record IsScriptRun (jmax workers : ℕ) (script : Script) (stopped : Option Stop) (ends : List (List LineEnd)) (h : List (Entry Meaning)) : Type 0 where
  pub legal : IsLegal jmax h
  pub places : HasPlaces jmax h
  pub lowest : PlacesAreLowest h
  pub setup : List (Entry Meaning)
  pub later : List (Entry Meaning)
  pub parts : h ≡ setup ++ later
  pub setup_seat : All (λ (e : Entry Meaning). e.seat.0 ≡ 0) setup
  pub later_seats : All (λ (e : Entry Meaning). (0 < e.seat.0) × (e.seat.0 ≤ length script.clients + workers)) later
  pub workers_do : (s : ℕ) → length script.clients < s → AreJobs h (numbered_calls s 1 h)
  pub went : Went jmax script ends h setup later stopped
  pub none_held : kept (state h) ≡ 0
