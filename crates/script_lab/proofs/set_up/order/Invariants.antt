use Rattle.std.proofs.Common.{◌≤◌, length}
use Rattle.script_lab.proofs.set_up.order.Given as goal

abbrev pub invariant-loop : goal.invariant-loop
invariant-loop l = (length l.order.items ≤ l.counter) × (l.end ≤ 3)
