use Rattle.std.proofs.Common.{rules, ◌∙◌}
use Rattle.turn_lock.proofs.Steps.{adds_as}
use Rattle.turn_lock.proofs.seat.steps.Seat+T+T+Entry.add.Goals as goal

pub fetch_add-requires : goal.fetch_add-requires
fetch_add-requires g c = let one_more = c.requires.one_more in
    (search rules, search rules, adds_as g.T.Counted.history g.T.Counted.seat_of g.T.Counted.lawful g.T.Counted.posted _ _ _ _ one_more.0 g.W.Written.written g.met.T.Counted.stays_posted (c.requires.names ∙ one_more.1) (search rules) (search rules) one_more.2 (search rules) (search rules))
