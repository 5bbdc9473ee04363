-- The placements are those that there were.
use Rattle.std.proofs.Common.{◌≡◌}
use Rattle.code_memory.proofs.sharing.share_from.Given as goal

abbrev pub invariant-loop : goal.invariant-loop
invariant-loop l = l.placed.entries ≡ l.initial.placed.entries
