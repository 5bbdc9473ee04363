use Rattle.std.proofs.Common.{◌&&◌, nat_eq}
use Rattle.std.specs.Map.{lookup}
use Rattle.generators.specs.Lines.{same_line}
use Rattle.generators.proofs.Queues.{found_put}
use Rattle.generators.proofs.lines.put_line.Goals as goal

pub returns-in-Ok-clause-lines : goal.returns-in-Ok-clause-lines
returns-in-Ok-clause-lines c = λ e n.
    found_put (nat_eq c.args.d.0 e && nat_eq c.args.name.0 n) c.args.line (record { first = 0; waiting = 0 })
    (lookup (same_line (e, n)) c.args.lines.now.entries) (lookup (same_line (e, n)) c.insert.new.self.entries) (c.in-Ok.ensures.updates.0 (e, n))
