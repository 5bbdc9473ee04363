use Rattle.std.proofs.Common.{◌≡◌, drop}
use Rattle.std.specs.Prelude.{◌==◌}
use Rattle.std.specs.List.{position_from}
use Rattle.session_plain.proofs.answers.dylib_named.Given as goal

abbrev pub invariant-loop-k : goal.invariant-loop-k
invariant-loop-k l = position_from (λ d. d.name == l.name.0) l.k (drop l.k l.dylibs) ≡ position_from (λ d. d.name == l.name.0) 0 l.dylibs
