-- What the plan of such a session asks for, and its parts.
use Rattle.std.specs.Prelude.{◌≡◌, ℕ, ◌==◌, not, List, [], ◌∷◌, ◌++◌, map}
use Rattle.std.specs.List.{filter}
use Rattle.script_model.specs.Asking.{Line, LookUp, One, Script}
use Rattle.session_model.specs.Meaning.{Meaning}
use Rattle.session_model.specs.declared.entry.Event.{Event}
use Rattle.session_model.specs.declared.entry.Event.TheVariants as event
use Rattle.generated_session.specs.Runs.{AreUnits, IsUnit}
use Rattle.generated_session.specs.Scripts.{definitions, dylib, exported_from, generated_script, home, lookup_of, set_up_events, tracker_of}

-- the script of the session of n objects, by some units that are those of the objects
abbrev pub IsGenerated : ℕ → Script → Type 0
IsGenerated n script = (units : List Meaning) × AreUnits n n units × (script ≡ generated_script n units)

-- ---- the set-up

-- these dylibs are made
abbrev pub made : List ℕ → List (Event Meaning)
made ds = map (λ d. event.Dylib (record { 0 = d })) ds

-- each of some dylibs links against those of a list that aren't it
abbrev pub ordered : List ℕ → List ℕ → List (Event Meaning)
ordered all ds = map (λ d. event.SetOrder (dylib d) (map exported_from (filter (λ e. not (e == d)) all))) ds

-- function k, whose unit this is, gets a tracker and is defined there
abbrev pub defined : ℕ → Meaning → List (Event Meaning)
defined k unit = event.Tracker (home k) ∷ event.Define (home k) (tracker_of k) unit ∷ []

-- function k of n is defined besides
abbrev pub IsOneMore : ℕ → ℕ → List (Event Meaning) → List (Event Meaning) → Type 0
IsOneMore n k old new = (unit : Meaning) × IsUnit n k unit × (new ≡ old ++ defined k unit)

-- the first so many functions of n are defined besides
pub record Defines (n count : ℕ) (old new : List (Event Meaning)) : Type 0 where
  pub units : List Meaning
  pub are : AreUnits n count units
  pub events : new ≡ old ++ definitions 0 units

-- the set-up of n objects, by some units that are those of the objects
abbrev pub IsSetUp : ℕ → List (Event Meaning) → Type 0
IsSetUp n events = (units : List Meaning) × AreUnits n n units × (events ≡ set_up_events units)

-- ---- the client

-- the trackers of these functions are removed
abbrev pub removed : List ℕ → List Line
removed ks = map (λ k. One (event.Remove (tracker_of k))) ks

-- these functions are looked up
abbrev pub looked_up : List ℕ → List Line
looked_up ks = map (λ k. LookUp (lookup_of k)) ks
