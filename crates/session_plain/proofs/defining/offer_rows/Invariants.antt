use Rattle.std.proofs.Common.{◌≡◌, ◌++◌, drop}
use Rattle.session_model.specs.Change.{new_rows}
use Rattle.session_plain.proofs.defining.offer_rows.Given as goal

abbrev pub invariant-loop-k : goal.invariant-loop-k
invariant-loop-k g l =
    let offers = (g.U.UnitKind.meaning l.unit).offers in
    l.rows.items ++ new_rows l.d.0 l.u.0 l.k (drop l.k offers) (drop l.k l.found) ≡ l.initial.rows.items ++ new_rows l.d.0 l.u.0 0 offers l.found
