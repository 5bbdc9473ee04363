-- A run without workers writes one log.
use Rattle.std.specs.Prelude.{ℕ}
use Rattle.answers.specs.declared.answer.Answer.{Answer}
use Rattle.run_answers.specs.Clauses.{Call, OfSession}
use Rattle.one_log.specs.Alike.{AskAlike, GainOne}

-- Without workers the log of a session is the one text that the files and the words give.
abbrev pub OneLog : Type 0
OneLog = (jmax : ℕ) (c d : Call) (a b : Answer) (p : OfSession jmax c a) (q : OfSession jmax d b) → AskAlike jmax c d a b p q → GainOne jmax c d a b p q
