use Rattle.session_laws.proofs.Placing.{kept_within}
use Rattle.session_laws.proofs.journal.kept_within.Goals as goal

pub returns : goal.returns
returns c = kept_within
