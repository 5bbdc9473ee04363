-- What `orc session` finds, before anything is written.
use Rattle.std.specs.Prelude.{◌≡◌, ◌≢◌, ℕ, ◌⊎◌, List, [], length, map, Option, Err}
use Rattle.orc_ids.specs.declared.lookup.Outcome.{Outcome}
use Rattle.orc_ids.specs.declared.lookup.Stop.{Stop}
use Rattle.orc_io.specs.Causes.{Rose}
use Rattle.session_model.specs.Meaning.{Meaning}
use Rattle.session_model.specs.declared.entry.Entry.{Entry}
use Rattle.object_files.specs.Files.{HasStopped, Told}
use Rattle.object_files.specs.declared.error.LoadError.{LoadError}
use Rattle.session_script.specs.Scripts.{script_of}
use Rattle.session_script.specs.declared.error.ScriptError.TheVariants.{BadLine}
use Rattle.session_script.specs.declared.error.ScriptWhy.{ScriptWhy}
use Rattle.session_script.specs.declared.script.Script.{Script}
use Rattle.notifiers.specs.declared.notes.Noted.{Noted}
use Rattle.notifiers.specs.declared.notes.Noted.TheVariants.{Unfired}
use Rattle.script_model.specs.declared.line_end.LineEnd.{LineEnd}
use Rattle.answers.specs.declared.answer.Answer.{Answer}
use Rattle.answers.specs.declared.answer.Answer.TheVariants.{NoMemory, ReadFault, ScriptRefused}
use Rattle.answers.specs.Files.{file_answer}
use Rattle.session_command.specs.Ends.{session_answer}
use Rattle.session_command.specs.Notes.{AreBack}
use Rattle.session_command.specs.Texts.{AreRead, IsScriptOn, IsSession, counted, session_text}

-- The text that the source had left, where it tells it, has this first bad line.
pub record IsRefusedOn (left : Option (List ℕ)) (notes line : ℕ) (why : ScriptWhy) : Type 0 where
  pub bytes : List ℕ
  pub read : AreRead left bytes
  pub is : script_of notes bytes ≡ Err (BadLine line why)

-- the source couldn't be read, or memory ran out
abbrev pub IsUnread : ℕ → ℕ → Answer → Type 0
IsUnread unread read answer = (Rose unread read × (answer ≡ ReadFault)) ⊎ (answer ≡ NoMemory)

-- so, or its script has a bad line
pub data IsUnasked (left : Option (List ℕ)) (notes unread read : ℕ) (answer : Answer) : Type 0 where
  unread : IsUnread unread read answer → IsUnasked left notes unread read answer
  refused : (line : ℕ) (why : ScriptWhy) → IsRefusedOn left notes line why → answer ≡ ScriptRefused line why → IsUnasked left notes unread read answer

module _ {N : Type 0} (heard : N → Option Outcome) (number : N → ℕ) where
  -- A session of the script on the source was run: this is its text and its answer, and these notifiers came back. Where memory ran out some
  -- may be missing.
  pub record HasSession (jmax workers : ℕ) (handed : List N) (left : Option (List ℕ)) (told : Told) (answer : Answer) (output : List ℕ) (back : List (Noted N)) : Type 0 where
    pub script : Script
    pub asked : IsScriptOn left (counted (length handed)) script
    pub names : List (List ℕ)
    pub history : List (Entry Meaning)
    pub stopped : Option Stop
    pub ends : List (List LineEnd)
    pub session : IsSession jmax workers told script names history stopped ends
    pub answers : answer ≡ session_answer history stopped ends
    pub text : output ≡ session_text names script history ends
    pub notes : answer ≢ NoMemory → AreBack heard number history (length handed) back

  -- What was found, in this order: the source couldn't be read; the first bad line of its script; the first file that isn't taken in; or a
  -- session was run. Memory may run out at any time.
  pub data IsFound (jmax workers : ℕ) (handed : List N) (left : Option (List ℕ)) (unread read : ℕ) (told : Told) (before after : ℕ) (answer : Answer) (output : List ℕ) (back : List (Noted N)) : Type 0 where
    in_source : Rose unread read → answer ≡ ReadFault → output ≡ [] → back ≡ map Unfired handed → IsFound jmax workers handed left unread read told before after answer output back
    in_script : (line : ℕ) (why : ScriptWhy) → IsRefusedOn left (counted (length handed)) line why → answer ≡ ScriptRefused line why → output ≡ [] → back ≡ map Unfired handed → IsFound jmax workers handed left unread read told before after answer output back
    in_files : (script : Script) (e : LoadError) → IsScriptOn left (counted (length handed)) script → HasStopped told before after script.files e → answer ≡ file_answer e → output ≡ [] → back ≡ map Unfired handed → IsFound jmax workers handed left unread read told before after answer output back
    in_session : HasSession jmax workers handed left told answer output back → IsFound jmax workers handed left unread read told before after answer output back
    wanting : answer ≡ NoMemory → output ≡ [] → IsFound jmax workers handed left unread read told before after answer output back
