use Rattle.shared_session.proofs.Sharing.{calls_are_shared}
use Rattle.shared_session.proofs.laws.calls_are_shared.Goals as goal

pub returns : goal.returns
returns g c = calls_are_shared g.U.UnitKind.meaning
