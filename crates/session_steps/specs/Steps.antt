-- An event of a seat that was answered, and changed the parts of a session so.
use Rattle.std.specs.Prelude.{◌≡◌, ℕ, Bool, true, false, List}
use Rattle.session_model.specs.Meaning.{Meaning}
use Rattle.session_model.specs.Plain.{Plain}
use Rattle.session_model.specs.State.{state}
use Rattle.session_model.specs.Answer.{Answers}
use Rattle.session_model.specs.Change.{change_of}
use Rattle.session_model.specs.declared.entry.Entry.{Entry}
use Rattle.session_model.specs.declared.entry.Event.{Event}
use Rattle.session_model.specs.declared.entry.Event.TheVariants as event
use Rattle.session_model.specs.declared.entry.Reply.{Reply}
use Rattle.closure_laws.specs.Quiet.{stirs}
use Rattle.session_parts.specs.declared.parts.Parts.{Parts}
use Rattle.session_parts.specs.Ends.{AreEnds}
use Rattle.session_steps.specs.Moved.{Goes, HandsInLawful}

-- the reply is a right one after whatever led to the session, and the parts have gone on by it
pub record IsStep {U N : Type 0} (means : U → Meaning) (m : Plain) (s : ℕ) (e : Event Meaning) (r : Reply) (old new : Parts U N) : Type 0 where
  pub answered : (jmax : ℕ) (past : List (Entry Meaning)) → state past ≡ m → AreEnds past old.book.ends → Answers jmax past m s e r
  pub goes : Goes means m s e r old new
  pub lawful : HandsInLawful (change_of m s e r)

-- and it stirs no instance, and lodges no query
pub record IsQuietStep {U N : Type 0} (means : U → Meaning) (m : Plain) (s : ℕ) (e : Event Meaning) (r : Reply) (old new : Parts U N) : Type 0 where
  pub step : IsStep means m s e r old new
  pub quiet : stirs (change_of m s e r) ≡ false
  pub book : new.book ≡ old.book

-- and it lodges no query
pub record IsTellingStep {U N : Type 0} (means : U → Meaning) (m : Plain) (s : ℕ) (e : Event Meaning) (r : Reply) (old new : Parts U N) : Type 0 where
  pub step : IsStep means m s e r old new
  pub book : new.book ≡ old.book

-- the events whose reply may have a list of addresses
abbrev pub lists : Event Meaning → Bool
lists (event.Collect q) = true
lists event.Take = true
lists _ = false
