use Rattle.as_command.proofs.Kept.{as_answers_are_kept}
use Rattle.as_command.proofs.laws.as_answers_are_kept.Goals as goal

pub returns : goal.returns
returns c = as_answers_are_kept
