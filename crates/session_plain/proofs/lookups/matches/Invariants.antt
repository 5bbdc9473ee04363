use Rattle.std.proofs.Common.{◌≡◌, ◌++◌, drop}
use Rattle.session_model.specs.Change.{matched}
use Rattle.session_plain.specs.Meant.{meant}
use Rattle.session_plain.proofs.lookups.matches.Given as goal

abbrev pub invariant-loop-w : goal.invariant-loop-w
invariant-loop-w g l =
    let m = meant g.U.UnitKind.meaning l.s in
    l.found.items ++ matched m l.order (drop l.w-index l.wanted) ≡ matched m l.order l.wanted
