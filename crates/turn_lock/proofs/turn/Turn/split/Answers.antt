use Rattle.std.proofs.Common.{rules}
use Rattle.turn_lock.proofs.Seats.{splits_seat}
use Rattle.turn_lock.proofs.turn.Turn.split.Goals as goal

pub split_seat-other-requires : goal.split_seat-other-requires
split_seat-other-requires g c = (search rules, search rules, splits_seat g.T.Counted.history g.T.Counted.seat_of g.T.Counted.lawful g.T.Counted.posted _ _ _ (search rules) (search rules))
