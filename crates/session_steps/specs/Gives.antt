-- A fail of a unit that was answered.
use Rattle.std.specs.Prelude.{◌≡◌, ℕ, List}
use Rattle.orc_ids.specs.declared.ids.UnitId.{UnitId}
use Rattle.session_model.specs.Meaning.{Meaning}
use Rattle.session_model.specs.Plain.{Plain}
use Rattle.session_model.specs.Answer.{Answers}
use Rattle.session_model.specs.Change.{change_of}
use Rattle.session_model.specs.declared.entry.Entry.{Entry}
use Rattle.session_model.specs.declared.entry.Event.TheVariants.{Fail}
use Rattle.session_model.specs.declared.entry.Reply.{Reply}
use Rattle.session_model.specs.declared.entry.Why.{Why}
use Rattle.session_parts.specs.declared.parts.Parts.{Parts}
use Rattle.session_steps.specs.Allowed.{MayFail}
use Rattle.session_steps.specs.Moved.{Goes, HandsInLawful}

-- the reply is a right one after entries with this cause, and the parts have gone on by it; no query is lodged
pub record GivesUp {U N : Type 0} (means : U → Meaning) (m : Plain) (s : ℕ) (u : UnitId) (why : Why) (r : Reply) (old new : Parts U N) : Type 0 where
  pub answered : (jmax : ℕ) (past : List (Entry Meaning)) → MayFail jmax past m s u why → Answers jmax past m s (Fail u why) r
  pub goes : Goes means m s (Fail u why) r old new
  pub lawful : HandsInLawful (change_of m s (Fail u why) r)
  pub book : new.book ≡ old.book
