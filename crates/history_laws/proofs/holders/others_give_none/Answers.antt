use Rattle.history_laws.proofs.Giving.{others_give_none}
use Rattle.history_laws.proofs.holders.others_give_none.Goals as goal

pub returns : goal.returns
returns c = others_give_none
