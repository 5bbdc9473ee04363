-- What is found and then written keeps the promise of the call.
use Rattle.std.specs.Prelude.{ℕ, List, []}
use Rattle.answers.specs.declared.answer.Answer.{Answer}
use Rattle.answers.specs.Written.{IsFinished}
use Rattle.as_command.specs.Clauses.{AsAnswers, Call, Finds}

abbrev pub AsAnswersAreKept : Type 0
AsAnswersAreKept = (c : Call) (found answer : Answer) (output : List ℕ) →
    Finds c found output → IsFinished c.out_before c.out_after c.log_before c.log_after found output [] answer → AsAnswers c answer
