-- Which promise a call keeps, by what its words ask for.
use Rattle.std.specs.Prelude.{◌≡◌, ◌≢◌, ℕ, List, [], Option, Result, Ok, Err}
use Rattle.command_line.specs.Words.{Asked, Assembly, Generation, Request, Run, Session}
use Rattle.command_line.specs.declared.error.UsageKind.{UsageKind}
use Rattle.object_files.specs.Files.{distinct}
use Rattle.object_files.specs.Reads.{Use}
use Rattle.answers.specs.Reads.{AreReadFor, HoldsOfFound}
use Rattle.answers.specs.declared.answer.Answer.{Answer}
use Rattle.session_command.specs.Reads.{AreScriptRead}
use Rattle.session_command.specs.Texts.{counted}

-- the words ask for this run, or for nothing, for this reason
abbrev pub AsksRun : Result Asked UsageKind → Result Request UsageKind → Type 0
AsksRun (Ok (Run request)) asked = asked ≡ Ok request
AsksRun (Ok (Session workers)) asked = ⊥
AsksRun (Ok (Assembly file)) asked = ⊥
AsksRun (Ok (Generation objects)) asked = ⊥
AsksRun (Err kind) asked = asked ≡ Err kind

-- where the words ask for a run, or for nothing, this holds of it
abbrev pub ForRun : Result Asked UsageKind → (Result Request UsageKind → Type 0) → Type 0
ForRun words P = (asked : Result Request UsageKind) → AsksRun words asked → P asked

-- where the words ask for a session, this holds of its workers
abbrev pub ForSession : Result Asked UsageKind → (ℕ → Type 0) → Type 0
ForSession words P = (workers : ℕ) → words ≡ Ok (Session workers) → P workers

-- where the words ask for an assembly, this holds of its file
abbrev pub ForAssembly : Result Asked UsageKind → (List ℕ → Type 0) → Type 0
ForAssembly words P = (file : List ℕ) → words ≡ Ok (Assembly file) → P file

-- where the words ask for a generated session, this holds of its objects
abbrev pub ForGeneration : Result Asked UsageKind → (ℕ → Type 0) → Type 0
ForGeneration words P = (objects : ℕ) → words ≡ Ok (Generation objects) → P objects

-- this holds unless the words ask for a session
abbrev pub ButForSession : Result Asked UsageKind → Type 0 → Type 0
ButForSession words P = ((workers : ℕ) → words ≢ Ok (Session workers)) → P

-- the files of a run, each once; none where nothing is asked for
abbrev pub files_of : Result Request UsageKind → List (List ℕ)
files_of (Ok run) = distinct run.files
files_of (Err kind) = []

-- these files, or those of the script on the source with so many notes, were read for what was found
abbrev pub ReadsFiles : List (List ℕ) → Use → Use → Answer → Type 0
ReadsFiles files old new answer = HoldsOfFound (AreReadFor files old new) answer

abbrev pub ReadsScript : Option (List ℕ) → ℕ → Use → Use → Answer → Type 0
ReadsScript left notes old new answer = HoldsOfFound (AreScriptRead left (counted notes) old new) answer
