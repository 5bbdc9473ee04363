use Rattle.materialization.proofs.Stopping.{may_give_up}
use Rattle.materialization.proofs.laws.may_give_up.Goals as goal

pub returns : goal.returns
returns c = may_give_up
