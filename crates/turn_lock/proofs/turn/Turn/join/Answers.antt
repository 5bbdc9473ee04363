use Rattle.std.proofs.Common.{rules}
use Rattle.turn_lock.proofs.Seats.{joins_seat}
use Rattle.turn_lock.proofs.turn.Turn.join.Goals as goal

pub join_seat-requires : goal.join_seat-requires
join_seat-requires g c = (search rules, search rules, search rules, search rules, joins_seat g.T.Counted.history g.T.Counted.seat_of g.T.Counted.lawful g.T.Counted.posted _ _ _ _ _ (search rules) (search rules) (search rules) (search rules))
