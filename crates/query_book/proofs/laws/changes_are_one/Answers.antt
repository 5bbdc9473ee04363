use Rattle.query_book.proofs.Current.{changes_one}
use Rattle.query_book.proofs.laws.changes_are_one.Goals as goal

pub returns : goal.returns
returns g c = changes_one
