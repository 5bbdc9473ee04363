use Rattle.ready_words.proofs.Posting.{found_may_be_posted}
use Rattle.ready_words.proofs.laws.found_may_be_posted.Goals as goal

pub returns : goal.returns
returns g c = found_may_be_posted g.U.UnitKind.meaning
