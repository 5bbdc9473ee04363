-- What is found and then written keeps the promise of the call.
use Rattle.std.specs.Prelude.{ℕ, List, [], Option}
use Rattle.orc_ids.specs.declared.lookup.Outcome.{Outcome}
use Rattle.answers.specs.declared.answer.Answer.{Answer}
use Rattle.answers.specs.Written.{IsFinished}
use Rattle.session_command.specs.Clauses.{Call, Finds, SessionAnswers}
use Rattle.session_command.specs.Reads.{IsSourceEndFor, IsSourceReadFor}

abbrev pub SessionAnswersAreKept : Type 0 → Type 0
SessionAnswersAreKept N = (heard : N → Option Outcome) (number : N → ℕ) (jmax : ℕ) (c : Call N) (found answer : Answer) (output : List ℕ) →
    Finds heard number jmax c found output → IsSourceReadFor c.source_before.faults c.source_after.faults found → IsSourceEndFor c.source_after.bytes found → IsFinished c.out_before c.out_after c.log_before c.log_after found output [] answer → SessionAnswers heard number jmax c answer
