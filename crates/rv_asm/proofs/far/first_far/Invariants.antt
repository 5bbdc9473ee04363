use Rattle.std.proofs.Common.{◌≡◌, drop}
use Rattle.rv_asm.specs.Branches.{first_far_from, lesser}
use Rattle.rv_asm.proofs.far.first_far.Given as goal

abbrev pub invariant-loop-section : goal.invariant-loop-section
invariant-loop-section l = lesser l.first (first_far_from l.symbols l.section (drop l.section l.made)) ≡ first_far_from l.symbols 0 l.made
