use Rattle.query_book.proofs.Current.{current_told}
use Rattle.query_book.proofs.laws.current_is_told.Goals as goal

pub returns : goal.returns
returns g c = current_told
