use Rattle.block_groups.proofs.Searches.{Hands}
use Rattle.block_groups.proofs.backwards.hand_out.Given as goal

abbrev pub invariant-loop-k : goal.invariant-loop-k
invariant-loop-k l = Hands l.initial.search l.instance l.initial.lists l.k l.search l.lists
