use Rattle.std.proofs.Common.{◌≡◌, drop, map}
use Rattle.std.specs.List.{position_from}
use Rattle.session_plain.specs.Find.{is_offering}
use Rattle.session_plain.specs.Meant.{gen_row}
use Rattle.session_plain.proofs.find.find_offer.Given as goal

abbrev pub invariant-loop-k : goal.invariant-loop-k
invariant-loop-k g l =
    let test = is_offering l.d.0 l.name.0 l.scope in
    let means = gen_row g.U.UnitKind.meaning in
    position_from test l.k (map means (drop l.k l.generators)) ≡ position_from test 0 (map means l.generators)
