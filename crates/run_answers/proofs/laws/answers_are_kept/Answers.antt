use Rattle.run_answers.proofs.Kept.{answers_are_kept}
use Rattle.run_answers.proofs.laws.answers_are_kept.Goals as goal

pub returns : goal.returns
returns c = answers_are_kept
