-- A reply that leaves a session as it was.
use Rattle.std.specs.Prelude.{◌≡◌, ℕ, List}
use Rattle.session_model.specs.Meaning.{Meaning}
use Rattle.session_model.specs.Plain.{Plain}
use Rattle.session_model.specs.Answer.{Answers}
use Rattle.session_model.specs.Change.{change_of}
use Rattle.session_model.specs.declared.change.Change.TheVariants.{Nothing}
use Rattle.session_model.specs.declared.entry.Entry.{Entry}
use Rattle.session_model.specs.declared.entry.Event.{Event}
use Rattle.session_model.specs.declared.entry.Reply.{Reply}

-- whoever asks
abbrev pub IsQuiet : Plain → Event Meaning → Reply → Type 0
IsQuiet m e r = (s : ℕ) → change_of m s e r ≡ Nothing

-- a right reply to the event, after whatever led to the session
pub record Refuses (m : Plain) (e : Event Meaning) (r : Reply) : Type 0 where
  pub answered : (jmax : ℕ) (past : List (Entry Meaning)) (s : ℕ) → Answers jmax past m s e r
  pub quiet : IsQuiet m e r
