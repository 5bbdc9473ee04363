use Rattle.turn_lock.specs.Handles.{view}
use Rattle.linked_program.proofs.ClientCalls.{looked_up}
use Rattle.linked_program.proofs.client.look_up.Goals as goal

pub returns-clause-looked : goal.returns-clause-looked
returns-clause-looked g c = looked_up g.U.UnitKind.meaning _ g.row.JMAX (view c.args.pass.now) (view c.lookup-end.new.pass) _ _ c.args.entry _ c.lookup-end.result.back c.lookup-end.result.end c.lookup-end.ensures.looked
