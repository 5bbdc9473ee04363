use Rattle.query_book.proofs.Beginning.{kept_nobody, seen_nobody}
use Rattle.query_book.proofs.book.Book.new.Goals as goal

pub invariant_of-result : goal.invariant_of-result
invariant_of-result g c = kept_nobody c.new.result c.new-2.result c.new.ensures c.new-2.ensures.watches c.new-2.ensures.met

pub returns : goal.returns
returns g c = seen_nobody c.new.result c.new-2.result c.new.ensures c.new-2.ensures.watches
