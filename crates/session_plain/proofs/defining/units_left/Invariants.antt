use Rattle.std.proofs.Common.{◌≡◌, ◌++◌, take, drop, map}
use Rattle.session_model.specs.Lists.{numbered}
use Rattle.session_model.specs.Change.{without_replaced}
use Rattle.session_plain.specs.Meant.{unit_row}
use Rattle.session_plain.proofs.defining.units_left.Given as goal

abbrev pub invariant-loop-u : goal.invariant-loop-u
invariant-loop-u g l =
    let seen = unit_row g.U.UnitKind.meaning in
    map seen l.units ≡ numbered (without_replaced l.rows l.found) 0 (map seen (take l.u l.initial.units)) ++ map seen (drop l.u l.initial.units)
