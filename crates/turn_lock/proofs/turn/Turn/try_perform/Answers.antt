use Rattle.turn_lock.specs.Handles.{view}
use Rattle.turn_lock.proofs.Allowed.{still_allowed}
use Rattle.turn_lock.proofs.turn.Turn.try_perform.Goals as goal

pub make-requires-clause-may : goal.make-requires-clause-may
make-requires-clause-may g c = let taken = c.in-Ok.ensures.taken in
    still_allowed g.T.Counted.seat_of g.T.Counted.lawful g.T.Counted.posted (g.C.Call.may c.args.call) (g.met.C.Call.stays_allowed c.args.call) _ _ (view c.args.seat.now) _ taken.0 taken.1 c.requires.may
