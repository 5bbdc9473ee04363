use Rattle.std.proofs.Common.{◌≡◌, drop}
use Rattle.session_plain.specs.Lookups.{first_offer}
use Rattle.session_plain.specs.Meant.{meant}
use Rattle.session_plain.proofs.lookups.offer_reply.Given as goal

abbrev pub invariant-loop-w : goal.invariant-loop-w
invariant-loop-w g l =
    let m = meant g.U.UnitKind.meaning l.s in
    first_offer m l.order (drop l.w-index l.wanted) ≡ first_offer m l.order l.wanted
