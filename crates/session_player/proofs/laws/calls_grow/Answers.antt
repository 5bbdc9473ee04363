use Rattle.session_player.proofs.Growing.{does_grow}
use Rattle.session_player.proofs.laws.calls_grow.Goals as goal

pub returns : goal.returns
returns g c = λ jmax old new s call r does. does_grow g.U.UnitKind.meaning jmax old new s call r does
