-- What a script asks for: events of its set-up, and the lines of its clients.
use Rattle.std.specs.Prelude.{ℕ, List}
use Rattle.orc_ids.specs.declared.ids.NameId.{NameId}
use Rattle.session_model.specs.Calls.{Lookup}
use Rattle.session_model.specs.Meaning.{Meaning}
use Rattle.session_model.specs.declared.entry.Event.{Event}

-- A line of a client: one event, as a definition, a move or a removal; a lookup; a run that begins at a name, with so much
-- fuel and these arguments; or a peek at a name.
pub data Line : Type 0 where
  One : Event Meaning → Line
  LookUp : Lookup → Line
  Run : NameId → ℕ → List ℕ → Line
  PeekAt : NameId → Line

-- the events of the set-up, and the lines of each client
pub record Script : Type 0 where
  pub set_up : List (Event Meaning)
  pub clients : List (List Line)
