use Rattle.std.proofs.Common.{rules}
use Rattle.turn_lock.proofs.Seats.{opens_as}
use Rattle.turn_lock.proofs.turn.Turn.open_posts.Goals as goal

pub new-requires : goal.new-requires
new-requires g c = opens_as g.T.Counted.history g.T.Counted.seat_of g.T.Counted.lawful g.T.Counted.posted _ _ _ _ c.args.value (search rules) (search rules) (search rules) (search rules) (search rules)
