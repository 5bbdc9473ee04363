use Rattle.session_player.proofs.Once.{one_history}
use Rattle.session_player.proofs.laws.one_history.Goals as goal

pub returns : goal.returns
returns g c = λ jmax calls old new other end p q same. one_history g.U.UnitKind.meaning jmax c.reply_is_determined.ensures c.open_has_no_end.ensures calls old new other end p q same
