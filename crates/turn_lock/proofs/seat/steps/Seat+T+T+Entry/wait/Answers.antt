use Rattle.turn_lock.specs.Handles.{view}
use Rattle.turn_lock.proofs.Parts.{told_tried}
use Rattle.turn_lock.proofs.seat.steps.Seat+T+T+Entry.wait.Goals as goal

pub returns-in-Ok-clause-shows : goal.returns-in-Ok-clause-shows
returns-in-Ok-clause-shows g c = let now = c.loop.invariant.3 in
    told_tried g.T.Counted.seat_of g.T.Counted.lawful g.T.Counted.posted (g.T.Counted.history c.in-Ok.value) (view c.args.self.now) (view c.loop.self) now.0 now.2 (c.in-Ok.ensures {u = tt}).taken.1
