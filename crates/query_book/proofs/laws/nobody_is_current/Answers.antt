use Rattle.query_book.proofs.Current.{nobody_current}
use Rattle.query_book.proofs.laws.nobody_is_current.Goals as goal

pub returns : goal.returns
returns g c = nobody_current
