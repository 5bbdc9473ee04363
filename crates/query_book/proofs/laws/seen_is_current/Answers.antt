use Rattle.query_book.proofs.Current.{seen_current}
use Rattle.query_book.proofs.laws.seen_is_current.Goals as goal

pub returns : goal.returns
returns g c = seen_current
