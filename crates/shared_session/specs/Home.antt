-- The history of a session that seats share.
use Rattle.std.specs.Prelude.{◌≡◌, ◌≢◌, ℕ, List, Some, option_and_then}
use Rattle.session_model.specs.Meaning.{Meaning}
use Rattle.session_model.specs.Plain.{phase_address}
use Rattle.session_model.specs.Reach.{IsReady}
use Rattle.session_model.specs.State.{plain_history}
use Rattle.session_model.specs.History.{IsLegal, HasPlaces}
use Rattle.session_model.specs.declared.entry.Entry.{Entry}
use Rattle.session_laws.specs.Readiness.{phase_at}
use Rattle.session_steps.specs.Performs.{state_of}

-- it is legal, and each entry had its place in the journal
pub record IsLawful {U : Type 0} (means : U → Meaning) (jmax : ℕ) (h : List (Entry U)) : Type 0 where
  pub legal : IsLegal jmax (plain_history means h)
  pub places : HasPlaces jmax (plain_history means h)

-- the instance is ready at this address, which isn't 0
pub record IsPosted {U : Type 0} (means : U → Meaning) (h : List (Entry U)) (i address : ℕ) : Type 0 where
  pub ready : IsReady (state_of means h).rows i
  pub stands : option_and_then phase_address (phase_at (state_of means h).rows i) ≡ Some address
  pub not_zero : address ≢ 0

-- which seat made an entry
abbrev pub seat_of : {U : Type 0} → Entry U → ℕ
seat_of e = e.seat.0
