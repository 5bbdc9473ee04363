use Rattle.generators.proofs.Queues.{queue_joined}
use Rattle.generators.proofs.lines.Lines.join.Goals as goal

pub returns-clause-queues : goal.returns-clause-queues
returns-clause-queues c = queue_joined c.args.self.now (record { lines = c.put_line.new.lines; turns = c.put_turn.new.turns }) c.args.d.0 c.args.name.0 c.args.who c.line_of-line.result c.line_of-line.ensures c.put_line.ensures.lines c.put_turn.ensures.turns
