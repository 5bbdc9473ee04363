use Rattle.shared_session.proofs.Doing.{turn_is_no_call}
use Rattle.shared_session.proofs.turns.turn_is_no_call.Goals as goal

pub returns : goal.returns
returns g c = turn_is_no_call g.U.UnitKind.meaning
