use Rattle.history_laws.proofs.Passing.{last_replies_stay}
use Rattle.history_laws.proofs.holders.last_replies_stay.Goals as goal

pub returns : goal.returns
returns c = last_replies_stay
