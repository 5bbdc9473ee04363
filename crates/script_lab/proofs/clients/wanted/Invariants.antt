use Rattle.std.proofs.Common.{◌≤◌, ◌+◌, length}
use Rattle.script_lab.proofs.clients.wanted.Given as goal

abbrev pub invariant-loop : goal.invariant-loop
invariant-loop l = (length l.wanted.items ≤ l.counter + 1) × (l.end ≤ 3)
