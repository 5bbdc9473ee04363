use Rattle.session_promises.proofs.Closing.{intact_has_closure}
use Rattle.session_promises.proofs.laws.intact_has_closure.Goals as goal

pub returns : goal.returns
returns c = intact_has_closure
