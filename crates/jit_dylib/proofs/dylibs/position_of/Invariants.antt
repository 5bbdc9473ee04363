use Rattle.std.proofs.Common.{◌≡◌, ◌==◌, drop}
use Rattle.std.specs.List.{position_from}
use Rattle.jit_dylib.proofs.dylibs.position_of.Given as goal

abbrev pub invariant-loop-k : goal.invariant-loop-k
invariant-loop-k l = position_from (λ x. x.name == l.name.0) l.k (drop l.k l.dylibs) ≡ position_from (λ x. x.name == l.name.0) 0 l.dylibs
