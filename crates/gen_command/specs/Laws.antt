-- What is found and then written keeps the promise of the call.
use Rattle.std.specs.Prelude.{ℕ, List, []}
use Rattle.answers.specs.declared.answer.Answer.{Answer}
use Rattle.answers.specs.Written.{IsFinished}
use Rattle.gen_command.specs.Clauses.{Call, GenAnswers}
use Rattle.gen_command.specs.Found.{IsFound}

abbrev pub GenAnswersAreKept : Type 0
GenAnswersAreKept = (jmax : ℕ) (c : Call) (found answer : Answer) (output : List ℕ) →
    IsFound jmax c.objects found output → IsFinished c.out_before c.out_after c.log_before c.log_after found output [] answer → GenAnswers jmax c answer
