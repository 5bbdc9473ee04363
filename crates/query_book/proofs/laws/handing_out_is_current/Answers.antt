use Rattle.query_book.proofs.Current.{due_current, first_current}
use Rattle.query_book.proofs.laws.handing_out_is_current.Goals as goal

pub returns : goal.returns
returns g c = λ s l is. (due_current s l is, first_current s l is)
