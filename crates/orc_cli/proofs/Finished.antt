-- A call that found its answer and finished, and what follows of it.
use Rattle.std.proofs.Common.{◌≡◌, ℕ, List, [], Result, Ok, Err, refl, subst, inl, inr}
use Rattle.std.specs.Prelude.{◌≢◌}
use Rattle.command_line.specs.Words.{Asked, Assembly, Generation, Request, Run, Session, command_of}
use Rattle.command_line.specs.declared.error.UsageKind.{UsageKind}
use Rattle.command_line.proofs.Within.{command_within}
use Rattle.execution_session.specs.declared.session.TheConstants.{JOURNAL_LIMIT}
use Rattle.object_files.specs.Files.{Told}
use Rattle.answers.specs.Written.{Held, IsFinished}
use Rattle.run_answers.specs.Answered.{IsAnswered, IsFound, found, wanting}
use Rattle.answers.specs.declared.answer.Answer.{Answer}
use Rattle.answers.specs.declared.answer.Answer.TheVariants.{JournalFull, NoMemory}
use Rattle.run_answers.proofs.Full.{never_full}
use Rattle.orc_cli.specs.Asking.{AsksRun}

-- what was found and finished is answered
pub answered : (jmax : ℕ) (asked : Result Request UsageKind) (told : Told) (before after : ℕ) (out out' log log' : Held) (f answer : Answer) (output journal : List ℕ) →
    IsFound jmax asked told before after f output journal → IsFinished out out' log log' f output journal answer → IsAnswered jmax asked told before after out out' log log' answer
answered jmax asked told before after out out' log log' f answer output journal is (inl written) = found f output journal is written
answered jmax asked told before after out out' log log' f answer output journal is (inr written) = found NoMemory [] [] (wanting refl refl refl) written

-- a run that is asked for is what the words ask for
words_ask : (words : Result Asked UsageKind) (run : Request) (asked : Result Request UsageKind) → AsksRun words asked → asked ≡ Ok run → words ≡ Ok (Run run)
words_ask (Ok (Run other)) run asked asks is = cc
words_ask (Ok (Session workers)) run asked asks is = absurd asks
words_ask (Ok (Assembly file)) run asked asks is = absurd asks
words_ask (Ok (Generation objects)) run asked asks is = absurd asks
words_ask (Err kind) run asked asks is = absurd (cc)

-- a journal of as many places as one can have is never full, since no command line names more than 1,024 files
pub never_full_at : (jmax : ℕ) (words : List (List ℕ)) (asked : Result Request UsageKind) → AsksRun (command_of words) asked → (told : Told) (before after : ℕ) (out out' log log' : Held) (answer : Answer) →
    IsAnswered jmax asked told before after out out' log log' answer → jmax ≡ JOURNAL_LIMIT → (len : ℕ) → answer ≢ JournalFull len
never_full_at jmax words asked asks told before after out out' log log' answer is e =
    never_full asked told before after out out' log log' answer (λ run was. (command_within words (Run run) (words_ask (command_of words) run asked asks was)).few_files)
    (subst (λ j. IsAnswered j asked told before after out out' log log' answer) e is)

-- what is finished without a journal is the output and the end line
pub without_journal : (out out' log log' : Held) (f answer : Answer) (output journal : List ℕ) → journal ≡ [] → IsFinished out out' log log' f output journal answer → IsFinished out out' log log' f output [] answer
without_journal out out' log log' f answer output journal none is = subst (λ j. IsFinished out out' log log' f output j answer) none is
