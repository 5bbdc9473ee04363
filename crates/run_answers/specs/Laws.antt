-- A call that found its answer and wrote it keeps the promise of the top call.
use Rattle.std.specs.Prelude.{◌≡◌, ◌≢◌, ◌≤◌, ℕ, length, Result, Ok}
use Rattle.orc_ids.specs.declared.limits.TheConstants.{ENTRY_LIMIT}
use Rattle.command_line.specs.Words.{Request}
use Rattle.command_line.specs.declared.error.UsageKind.{UsageKind}
use Rattle.object_files.specs.Files.{Told}
use Rattle.answers.specs.Written.{Held}
use Rattle.run_answers.specs.Answered.{IsAnswered}
use Rattle.run_answers.specs.Clauses.{Answers, call_of}
use Rattle.answers.specs.declared.answer.Answer.{Answer}
use Rattle.answers.specs.declared.answer.Answer.TheVariants.{JournalFull}

-- what was found and written is promised
abbrev pub AnswersAreKept : Type 0
AnswersAreKept = (jmax : ℕ) (asked : Result Request UsageKind) (told : Told) (before after : ℕ) (out out' log log' : Held) (answer : Answer) →
    IsAnswered jmax asked told before after out out' log log' answer → Answers jmax (call_of asked told before after out out' log log') answer

-- the words name no more files than they may
abbrev pub NamesFewFiles : Result Request UsageKind → Type 0
NamesFewFiles asked = (run : Request) → asked ≡ Ok run → length run.files ≤ 1024

-- a journal with as many places as one can have is never full
abbrev pub NeverFull : Type 0
NeverFull = (asked : Result Request UsageKind) (told : Told) (before after : ℕ) (out out' log log' : Held) (answer : Answer) →
    NamesFewFiles asked → IsAnswered ENTRY_LIMIT asked told before after out out' log log' answer → (len : ℕ) → answer ≢ JournalFull len
