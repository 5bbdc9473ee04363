-- A lookup that was found made the calls of one.
use Rattle.ready_words_tests.proofs.Found.{finds_at}
use Rattle.ready_words_tests.proofs.tests.session.look_up.Goals as goal

pub returns-clause-looked : goal.returns-clause-looked
returns-clause-looked g c = finds_at g.U.UnitKind.meaning _ _ _ _ _ _ _ _ _ _ c.lookup-end.ensures.looked
