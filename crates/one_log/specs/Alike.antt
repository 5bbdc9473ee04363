-- Two calls that ask for one run without workers, and what both of them gain.
use Rattle.std.specs.Prelude.{◌≡◌, ◌≢◌, ◌++◌, ℕ}
use Rattle.journal_text.specs.Journal.{text_of_history}
use Rattle.answers.specs.EndLine.{end_line_of}
use Rattle.answers.specs.declared.answer.Answer.{Answer}
use Rattle.answers.specs.declared.answer.Answer.TheVariants.{JournalFull}
use Rattle.run_answers.specs.Clauses.{Call, OfSession, TellFiles}

-- Both ask for the same run, without workers, of files that hold the same, and speak of names by the same numbers; and in neither was the journal full.
pub record AskAlike (jmax : ℕ) (c d : Call) (a b : Answer) (p : OfSession jmax c a) (q : OfSession jmax d b) : Type 0 where
  pub asked : c.asked ≡ d.asked
  pub told : c.told ≡ d.told
  pub tell : TellFiles c
  pub names : p.names ≡ q.names
  pub alone : p.run.workers ≡ 0
  pub first_roomy : (len : ℕ) → a ≢ JournalFull len
  pub second_roomy : (len : ℕ) → b ≢ JournalFull len

-- The histories are one, the answers and outputs are the same, and so is what the log has gained.
pub record GainOne (jmax : ℕ) (c d : Call) (a b : Answer) (p : OfSession jmax c a) (q : OfSession jmax d b) : Type 0 where
  pub history : p.history ≡ q.history
  pub answer : a ≡ b
  pub output : p.output ≡ q.output
  pub log : text_of_history p.names p.history ++ end_line_of a ≡ text_of_history q.names q.history ++ end_line_of b
