-- A session that a history was played on.
use Rattle.std.specs.Prelude.{◌≡◌, List, Option}
use Rattle.session_model.specs.Meaning.{Meaning}
use Rattle.session_model.specs.Plain.{Plain}
use Rattle.session_model.specs.State.{state}
use Rattle.session_model.specs.declared.entry.Entry.{Entry}
use Rattle.session_past.specs.Ends.{AreEnds}
use Rattle.session_past.specs.Fit.{IsFit}
use Rattle.session_past.specs.declared.ends.Settled.{Settled}

-- these entries led to the session, and to these ends of its queries
pub record LedTo (past : List (Entry Meaning)) (m : Plain) (ends : List (Option Settled)) : Type 0 where
  pub leads : m ≡ state past
  pub known : AreEnds past m ends
  pub fit : IsFit m
