use Rattle.std.proofs.Common.{◌≡◌, drop}
use Rattle.rv_asm.specs.Branches.{first_far_in, lesser}
use Rattle.rv_asm.proofs.far.first_far_in.Given as goal

abbrev pub invariant-loop-code : goal.invariant-loop-code
invariant-loop-code l = lesser l.first (first_far_in l.symbols l.section (drop l.code-index l.codes)) ≡ first_far_in l.symbols l.section l.codes
