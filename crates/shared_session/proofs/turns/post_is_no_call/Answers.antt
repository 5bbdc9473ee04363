use Rattle.shared_session.proofs.Doing.{post_is_no_call}
use Rattle.shared_session.proofs.turns.post_is_no_call.Goals as goal

pub returns : goal.returns
returns g c = post_is_no_call g.U.UnitKind.meaning
