use Rattle.turn_lock.specs.Handles.{view}
use Rattle.crew.proofs.Taking.{taken_in}
use Rattle.crew.proofs.gathering.take_in.Goals as goal

pub returns-clause-kept : goal.returns-clause-kept
returns-clause-kept g c log said = taken_in g.T.Counted.seat_of g.T.Counted.lawful g.T.Counted.posted log (view c.front-len.new.seat).seen (view c.args.into.now) (view c.args.member.seat) (view c.front-len.new.seat) (view c.join.new.into) c.front-len.ensures.seen.1 c.front-len.ensures.seen.0 c.join.ensures.joined said
