use Rattle.session_command.proofs.Kept.{session_answers_are_kept}
use Rattle.session_command.proofs.laws.session_answers_are_kept.Goals as goal

pub returns : goal.returns
returns g c = session_answers_are_kept
