-- The bytes so far, and zero bytes after them.
use Rattle.exec_run.specs.Regions.{IsGathered}
use Rattle.exec_run.proofs.access.gather.Given as goal

abbrev pub invariant-loop-k : goal.invariant-loop-k
invariant-loop-k l = IsGathered l.memory l.at l.k l.bytes
