-- Those so far, and those that are left.
use Rattle.std.proofs.Common.{◌≡◌, ◌++◌, map, drop}
use Rattle.std.specs.Prelude.{◌==◌, not}
use Rattle.std.specs.List.{filter}
use Rattle.generated_session.specs.Scripts.{exported_from}
use Rattle.generated_session.proofs.set_up.others.Given as goal

abbrev pub invariant-loop-other : goal.invariant-loop-other
invariant-loop-other l = l.order.items ++ map exported_from (filter (λ d. not (d == l.dylib)) (drop l.other-index l.dylibs)) ≡ map exported_from (filter (λ d. not (d == l.dylib)) l.dylibs)
