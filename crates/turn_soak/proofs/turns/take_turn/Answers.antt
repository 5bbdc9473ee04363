use Rattle.turn_lock.specs.Handles.{view}
use Rattle.turn_soak.proofs.Marked.{took}
use Rattle.turn_soak.proofs.turns.take_turn.Goals as goal

pub returns-clause-took : goal.returns-clause-took
returns-clause-took g c = took _ _ _ c.args.nth (view c.args.seat.now) (view c.perform.new.seat) c.perform.result c.perform.ensures.turned
