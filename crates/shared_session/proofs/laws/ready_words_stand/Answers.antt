use Rattle.shared_session.proofs.Words.{ready_words_stand}
use Rattle.shared_session.proofs.laws.ready_words_stand.Goals as goal

pub returns : goal.returns
returns g c = ready_words_stand g.U.UnitKind.meaning
