-- The gaps that are left, counted on, give the same fit.
use Rattle.std.proofs.Common.{◌≡◌, drop}
use Rattle.code_memory.specs.Gaps.{first_fit, with_rest}
use Rattle.code_memory.proofs.gaps.find_fit.Given as goal

abbrev pub invariant-loop-at : goal.invariant-loop-at
invariant-loop-at l = first_fit l.shape l.at (with_rest (drop l.at l.gaps.items) l.last) ≡ first_fit l.shape 0 (with_rest l.gaps.items l.last)
