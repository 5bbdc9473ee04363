use Rattle.std.proofs.Common.{◌≡◌, drop}
use Rattle.session_model.specs.Lists.{first_some}
use Rattle.session_plain.specs.Defines.{clash_of, first_clash}
use Rattle.session_plain.proofs.defines.clash_reply.Given as goal

abbrev pub invariant-loop-k : goal.invariant-loop-k
invariant-loop-k g l =
    let means = g.U.UnitKind.meaning in
    first_some (clash_of l.rows l.d.0) (drop l.k (means l.unit).offers) ≡ first_clash l.rows l.d.0 (means l.unit)
