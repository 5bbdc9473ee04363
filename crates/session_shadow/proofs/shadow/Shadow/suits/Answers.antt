use Rattle.session_shadow.proofs.Following.{suits}
use Rattle.session_shadow.proofs.shadow.Shadow.suits.Goals as goal

pub returns-clause-small : goal.returns-clause-small
returns-clause-small c = (suits c.fit_suits.ensures c.requires.0 c.args.self.now c.requires.1).0

pub returns-clause-live : goal.returns-clause-live
returns-clause-live c = (suits c.fit_suits.ensures c.requires.0 c.args.self.now c.requires.1).1
