-- How the source and the files were read for what a session found.
use Rattle.std.proofs.Common.{◌≡◌, ℕ, inl, inr, List, [], Option, Result, Ok, Err, IfErr, OnOk, sym, subst}
use Rattle.std.specs.Io.KnownBytes.{IsAtEnd}
use Rattle.orc_ids.specs.declared.lookup.Stop.{Stop}
use Rattle.session_model.specs.Meaning.{Meaning}
use Rattle.session_model.specs.declared.entry.Entry.{Entry}
use Rattle.script_model.specs.declared.line_end.LineEnd.{LineEnd}
use Rattle.object_files.specs.Reads.{AreReadIn, Use}
use Rattle.object_files.specs.declared.error.LoadError.{LoadError}
use Rattle.object_files.specs.declared.error.LoadError.TheVariants as load
use Rattle.session_script.specs.declared.script.Script.{Script}
use Rattle.answers.specs.declared.answer.Answer.{Answer}
use Rattle.answers.specs.declared.answer.Answer.TheVariants.{NoMemory}
use Rattle.answers.specs.Files.{file_answer}
use Rattle.answers.specs.Reads.{AreReadFor}
use Rattle.answers.proofs.Reading.{read_in_vain}
use Rattle.session_command.specs.Ends.{session_answer}
use Rattle.session_command.specs.Found.{IsUnasked, refused, unread}
use Rattle.session_command.specs.Reads.{AreScriptRead, IsReadWhole, IsSourceEndFor, IsSourceReadFor, IsUnscripted, no_script, of_script}
use Rattle.session_command.specs.Texts.{IsScriptOn}
use Rattle.session_command.proofs.Causes.{session_as}

module _ (left : Option (List ℕ)) (notes : ℕ) (old new : Use) where
  -- what a session says is said once all were read
  pub read_by_session : (answer : Answer) (h : List (Entry Meaning)) (stopped : Option Stop) (ends : List (List LineEnd)) → answer ≡ session_answer h stopped ends → IsReadWhole left notes old new → AreScriptRead left notes old new answer
  read_by_session answer h stopped ends is whole =
      subst (AreScriptRead left notes old new) (sym is)
      (session_as (AreScriptRead left notes old new) (of_script whole.script whole.on whole.read) (λ len. of_script whole.script whole.on whole.read) (of_script whole.script whole.on (read_in_vain whole.script.files old new whole.read)) h stopped ends)

  pub wanting_read : (answer : Answer) → answer ≡ NoMemory → IsReadWhole left notes old new → AreScriptRead left notes old new answer
  wanting_read answer is whole = subst (AreScriptRead left notes old new) (sym is) (of_script whole.script whole.on (read_in_vain whole.script.files old new whole.read))

  -- none was, where there is no script
  pub unasked_read : (first read : ℕ) (answer : Answer) → IsUnasked left notes first read answer → AreReadIn [] old new → AreScriptRead left notes old new answer
  unasked_read first read answer (unread (inl p)) none = no_script (subst IsUnscripted (sym p.1) tt) none
  unasked_read first read answer (unread (inr is)) none = no_script (subst IsUnscripted (sym is) tt) none
  unasked_read first read answer (refused line why on is) none = no_script (subst IsUnscripted (sym is) tt) none

  -- and so of the answer of a call
  pub read_whole : {A : Type 0} (script : Script) (r : Result A Answer) → IsScriptOn left notes script → OnOk r (AreReadIn script.files old new) → OnOk r (IsReadWhole left notes old new)
  read_whole script (Ok x) on read = record { script = script; on = on; read = read }
  read_whole script (Err answer) on read = tt

  pub read_of_script : {A : Type 0} (script : Script) (r : Result A Answer) → IsScriptOn left notes script → IfErr r (AreReadFor script.files old new) → IfErr r (AreScriptRead left notes old new)
  read_of_script script (Ok x) on read = tt
  read_of_script script (Err answer) on read = of_script script on read

-- the source was read before a session, and before want of memory
pub source_of_session : (before after : ℕ) (answer : Answer) (h : List (Entry Meaning)) (stopped : Option Stop) (ends : List (List LineEnd)) → answer ≡ session_answer h stopped ends → after ≡ before → IsSourceReadFor before after answer
source_of_session before after answer h stopped ends is same =
    subst (IsSourceReadFor before after) (sym is) (session_as (IsSourceReadFor before after) same (λ len. same) same h stopped ends)

pub source_of_wanting : (before after : ℕ) (answer : Answer) → answer ≡ NoMemory → after ≡ before → IsSourceReadFor before after answer
source_of_wanting before after answer is same = subst (IsSourceReadFor before after) (sym is) same

-- and before files
pub source_of_file : (before after : ℕ) (answer : Answer) (e : LoadError) → answer ≡ file_answer e → after ≡ before → IsSourceReadFor before after answer
source_of_file before after answer (load.Fault k) is same = subst (IsSourceReadFor before after) (sym is) same
source_of_file before after answer (load.TooLong k) is same = subst (IsSourceReadFor before after) (sym is) same
source_of_file before after answer (load.Refused k why) is same = subst (IsSourceReadFor before after) (sym is) same
source_of_file before after answer load.NoMemory is same = subst (IsSourceReadFor before after) (sym is) same

-- nothing is left of a source whose session was run; of any other nothing is said
pub end_of_session : (left : Option (List ℕ)) (answer : Answer) (h : List (Entry Meaning)) (stopped : Option Stop) (ends : List (List LineEnd)) → answer ≡ session_answer h stopped ends → IsAtEnd left → IsSourceEndFor left answer
end_of_session left answer h stopped ends is end = subst (IsSourceEndFor left) (sym is) (session_as (IsSourceEndFor left) end (λ len. end) tt h stopped ends)

pub end_of_wanting : (left : Option (List ℕ)) (answer : Answer) → answer ≡ NoMemory → IsSourceEndFor left answer
end_of_wanting left answer is = subst (IsSourceEndFor left) (sym is) tt

pub end_of_unasked : (before after : Option (List ℕ)) (notes first read : ℕ) (answer : Answer) → IsUnasked before notes first read answer → IsSourceEndFor after answer
end_of_unasked before after notes first read answer (unread (inl p)) = subst (IsSourceEndFor after) (sym p.1) tt
end_of_unasked before after notes first read answer (unread (inr is)) = subst (IsSourceEndFor after) (sym is) tt
end_of_unasked before after notes first read answer (refused line why on is) = subst (IsSourceEndFor after) (sym is) tt

pub end_of_file : (left : Option (List ℕ)) (answer : Answer) (e : LoadError) → answer ≡ file_answer e → IsSourceEndFor left answer
end_of_file left answer (load.Fault k) is = subst (IsSourceEndFor left) (sym is) tt
end_of_file left answer (load.TooLong k) is = subst (IsSourceEndFor left) (sym is) tt
end_of_file left answer (load.Refused k why) is = subst (IsSourceEndFor left) (sym is) tt
end_of_file left answer load.NoMemory is = subst (IsSourceEndFor left) (sym is) tt
