-- What the top call answers, by what the words ask and what the outside tells: the answer is found, and then written.
use Rattle.std.specs.Prelude.{◌≡◌, ℕ, List, [], Result, Ok, Err}
use Rattle.command_line.specs.Words.{Request}
use Rattle.command_line.specs.declared.error.UsageKind.{UsageKind}
use Rattle.session_model.specs.Meaning.{Meaning}
use Rattle.session_model.specs.declared.entry.Entry.{Entry}
use Rattle.journal_text.specs.Journal.{text_of_history}
use Rattle.object_files.specs.Files.{HasStopped, Told, distinct}
use Rattle.object_files.specs.declared.error.LoadError.{LoadError}
use Rattle.run_laws.specs.declared.linked.Linked.{Linked}
use Rattle.answers.specs.Files.{file_answer}
use Rattle.answers.specs.Written.{Held, IsWritten}
use Rattle.run_answers.specs.Sessions.{IsAnswerOf, IsSession}
use Rattle.answers.specs.declared.answer.Answer.{Answer}
use Rattle.answers.specs.declared.answer.Answer.TheVariants.{Usage, NoMemory}

-- A session of the run was begun, and its journal says the answer.
pub record HasSession (jmax : ℕ) (told : Told) (run : Request) (answer : Answer) (output journal : List ℕ) : Type 0 where
  pub names : List (List ℕ)
  pub history : List (Entry Meaning)
  pub end : Linked
  pub session : IsSession jmax told run names history end
  pub answers : IsAnswerOf run history end answer output
  pub text : journal ≡ text_of_history names history

-- What was found, in this order: the words are no command; the first file that isn't taken in; or a session was begun. Memory
-- may run out at any time.
pub data IsFound (jmax : ℕ) (asked : Result Request UsageKind) (told : Told) (before after : ℕ) (answer : Answer) (output journal : List ℕ) : Type 0 where
  in_words : (kind : UsageKind) → asked ≡ Err kind → answer ≡ Usage kind → output ≡ [] → journal ≡ [] → IsFound jmax asked told before after answer output journal
  in_files : (run : Request) (e : LoadError) → asked ≡ Ok run → HasStopped told before after (distinct run.files) e → answer ≡ file_answer e → output ≡ [] → journal ≡ [] → IsFound jmax asked told before after answer output journal
  in_session : (run : Request) → asked ≡ Ok run → HasSession jmax told run answer output journal → IsFound jmax asked told before after answer output journal
  wanting : answer ≡ NoMemory → output ≡ [] → journal ≡ [] → IsFound jmax asked told before after answer output journal

-- The whole of a call: what was found, and then written.
pub data IsAnswered (jmax : ℕ) (asked : Result Request UsageKind) (told : Told) (before after : ℕ) (out out' log log' : Held) (answer : Answer) : Type 0 where
  found : (found : Answer) → (output journal : List ℕ) → IsFound jmax asked told before after found output journal → IsWritten out out' log log' found output journal answer → IsAnswered jmax asked told before after out out' log log' answer
