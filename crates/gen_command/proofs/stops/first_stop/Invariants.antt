-- No line so far was stopped.
use Rattle.std.proofs.Common.{◌≡◌, drop}
use Rattle.gen_command.specs.Ends.{first_stop}
use Rattle.gen_command.proofs.stops.first_stop.Given as goal

abbrev pub invariant-loop-end : goal.invariant-loop-end
invariant-loop-end l = first_stop l.ends ≡ first_stop (drop l.end-index l.ends)
