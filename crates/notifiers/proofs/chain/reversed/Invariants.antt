use Rattle.std.proofs.Common.{◌≡◌, ◌++◌, reverse}
use Rattle.notifiers.specs.Chains.{chained}
use Rattle.notifiers.proofs.chain.reversed.Given as goal

abbrev pub invariant-loop-rest : goal.invariant-loop-rest
invariant-loop-rest g l = reverse (chained l.initial.rest) ≡ reverse (chained l.rest) ++ chained l.done
