use Rattle.std.proofs.Common.{◌-◌, length}
use Rattle.block_groups.proofs.Searches.{Spreads}
use Rattle.block_groups.proofs.backwards.spread.Given as goal

abbrev pub invariant-loop-done : goal.invariant-loop-done
invariant-loop-done l = Spreads l.lists l.initial.search l.done l.search

abbrev pub decreases-loop-done : goal.decreases-loop-done
decreases-loop-done l = length l.search.seen.items - l.done
