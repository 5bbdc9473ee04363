use Rattle.query_book.proofs.Current.{change_told}
use Rattle.query_book.proofs.laws.change_is_told.Goals as goal

pub returns : goal.returns
returns g c = change_told
