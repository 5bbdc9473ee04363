use Rattle.std.proofs.Common.{rules}
use Rattle.shared_session.proofs.Words.{word_is}
use Rattle.shared_session.proofs.posts.ready_word.Goals as goal

pub returns-clause-word : goal.returns-clause-word
returns-clause-word g c = word_is g.U.UnitKind.meaning _ _ _ _ _ (search rules) (search rules) (search rules)
