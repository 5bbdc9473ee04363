use Rattle.gen_command.proofs.Kept.{gen_answers_are_kept}
use Rattle.gen_command.proofs.laws.gen_answers_are_kept.Goals as goal

pub returns : goal.returns
returns c = gen_answers_are_kept
