use Rattle.shared_session.proofs.Doing.{word_is_no_call}
use Rattle.shared_session.proofs.turns.word_is_no_call.Goals as goal

pub returns : goal.returns
returns g c = word_is_no_call g.U.UnitKind.meaning
