use Rattle.std.proofs.Common.{◌≡◌, drop}
use Rattle.session_plain.specs.Chains.{marked_cycle}
use Rattle.session_plain.proofs.chains.first_cycle.Given as goal

abbrev pub invariant-loop-i : goal.invariant-loop-i
invariant-loop-i l = marked_cycle l.marks (drop l.i-index l.found) ≡ marked_cycle l.marks l.found
