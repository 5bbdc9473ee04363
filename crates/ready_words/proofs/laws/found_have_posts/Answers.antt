use Rattle.ready_words.proofs.Posting.{found_have_posts}
use Rattle.ready_words.proofs.laws.found_have_posts.Goals as goal

pub returns : goal.returns
returns g c = found_have_posts g.U.UnitKind.meaning
