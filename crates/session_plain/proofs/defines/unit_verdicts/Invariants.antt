use Rattle.std.proofs.Common.{◌≡◌, ◌++◌, drop}
use Rattle.session_model.specs.Change.{verdicts}
use Rattle.session_plain.proofs.defines.unit_verdicts.Given as goal

abbrev pub invariant-loop-k : goal.invariant-loop-k
invariant-loop-k g l =
    let offers = (g.U.UnitKind.meaning l.unit).offers in
    l.found.items ++ verdicts l.rows l.d.0 (drop l.k offers) ≡ verdicts l.rows l.d.0 offers
