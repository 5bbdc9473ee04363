use Rattle.std.proofs.Common.{◌&&◌, nat_eq}
use Rattle.std.specs.Map.{lookup}
use Rattle.generators.specs.Lines.{same_turn}
use Rattle.generators.proofs.Queues.{found_put}
use Rattle.generators.proofs.lines.put_turn.Goals as goal

pub returns-in-Ok-clause-turns : goal.returns-in-Ok-clause-turns
returns-in-Ok-clause-turns c = λ e n k.
    found_put ((nat_eq c.args.d.0 e && nat_eq c.args.name.0 n) && nat_eq c.args.turn k) c.args.who 0
    (lookup (same_turn (e, n, k)) c.args.turns.now.entries) (lookup (same_turn (e, n, k)) c.insert.new.self.entries) (c.in-Ok.ensures.updates.0 (e, n, k))
