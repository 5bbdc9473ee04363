use Rattle.std.proofs.Common.{◌≤◌, length}
use Rattle.script_lab.proofs.clients.arguments.Given as goal

abbrev pub invariant-loop : goal.invariant-loop
invariant-loop l = (length l.args.items ≤ l.counter) × (l.end ≤ 3)
