use Rattle.std.proofs.Common.{◌≡◌, drop}
use Rattle.session_model.specs.Change.{all_claimed}
use Rattle.session_plain.specs.Meant.{meant}
use Rattle.session_plain.proofs.lodging.claim_all.Given as goal

abbrev pub invariant-loop-found : goal.invariant-loop-found
invariant-loop-found g l =
    let means = g.U.UnitKind.meaning in
    all_claimed (drop l.found-index l.matched) (meant means l.s) ≡ all_claimed l.matched (meant means l.initial.s)
