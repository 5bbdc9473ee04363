use Rattle.query_book.proofs.Session.{stands_same}
use Rattle.query_book.proofs.laws.stands_as_the_session.Goals as goal

pub returns : goal.returns
returns c = stands_same
