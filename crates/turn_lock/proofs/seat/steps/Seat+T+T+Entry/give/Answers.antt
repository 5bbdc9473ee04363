use Rattle.std.proofs.Common.{rules}
use Rattle.turn_lock.proofs.Steps.{gives_as}
use Rattle.turn_lock.proofs.seat.steps.Seat+T+T+Entry.give.Goals as goal

pub store-requires : goal.store-requires
store-requires g c = (search rules, search rules, gives_as g.T.Counted.history g.T.Counted.seat_of g.T.Counted.lawful g.T.Counted.posted _ _ _ _ c.args.value (search rules) (search rules) (search rules) (search rules) (search rules))
