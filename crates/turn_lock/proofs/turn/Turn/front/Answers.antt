use Rattle.std.proofs.Common.{rules}
use Rattle.turn_lock.proofs.Steps.{counts}
use Rattle.turn_lock.proofs.turn.Turn.front.Goals as goal

pub load-requires : goal.load-requires
load-requires g c = (search rules, search rules, counts g.T.Counted.history g.T.Counted.seat_of g.T.Counted.lawful g.T.Counted.posted _ _ _ _ (search rules))
