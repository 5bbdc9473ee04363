-- What seat 0 does while it is the only seat.
use Rattle.std.specs.Prelude.{⊤, ◌<◌, ◌≤◌, ℕ, List, length, take, Option, Some, None}
use Rattle.orc_ids.specs.declared.limits.TheConstants.{ORDER_LIMIT}
use Rattle.orc_ids.specs.declared.lookup.Stop.{Stop}
use Rattle.session_model.specs.Answer.{HasSource}
use Rattle.session_model.specs.Meaning.{Meaning}
use Rattle.session_model.specs.Plain.{Plain}
use Rattle.session_model.specs.State.{plain_history}
use Rattle.session_model.specs.declared.entry.Entry.{Entry}
use Rattle.session_model.specs.declared.entry.Event.{Event}
use Rattle.turn_lock.specs.declared.view.View.{View}
use Rattle.link_worker.specs.Jobs.{IsCause}
use Rattle.link_worker.specs.First.{IsFirst}
use Rattle.script_model.specs.declared.calls.SetUpCall.{SetUpCall}
use Rattle.script_model.specs.declared.calls.SetUpCall.TheVariants as set_up
use Rattle.script_model.specs.Scripts.{AreCalled}

module _ {U : Type 0} (means : U → Meaning) where
  -- the call can be made in a session: its order isn't too long, and the source of its alias is there
  abbrev pub IsAllowed : Plain → SetUpCall U → Type 0
  IsAllowed m (set_up.Dylib name) = ⊤
  IsAllowed m (set_up.Order d order) = length order ≤ ORDER_LIMIT
  IsAllowed m (set_up.Tracker d) = ⊤
  IsAllowed m (set_up.Define d t unit) = HasSource m (means unit)
  IsAllowed m (set_up.Attach d t unit) = HasSource m (means unit)

module _ {U : Type 0} (means : U → Meaning) (jmax : ℕ) where
  -- it has called these events
  abbrev pub IsAt : List (Event Meaning) → View (Entry U) → Type 0
  IsAt events v = IsFirst means jmax v × AreCalled events (plain_history means v.seen)

  -- it has called these, and the next was stopped
  abbrev pub IsStoppedIn : List (Event Meaning) → View (Entry U) → Stop → Type 0
  IsStoppedIn events v st = IsAt events v × IsCause means jmax v.seen st

  -- it has called all events, or those before one that was stopped
  abbrev pub HasSetUp : List (Event Meaning) → View (Entry U) → Option Stop → Type 0
  HasSetUp events v None = IsAt events v
  HasSetUp events v (Some st) = (n : ℕ) × (n < length events) × IsStoppedIn (take n events) v st
