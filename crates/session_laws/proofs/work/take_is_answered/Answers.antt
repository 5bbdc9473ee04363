use Rattle.session_laws.proofs.Answering.{take_is_answered}
use Rattle.session_laws.proofs.work.take_is_answered.Goals as goal

pub returns : goal.returns
returns c = take_is_answered
