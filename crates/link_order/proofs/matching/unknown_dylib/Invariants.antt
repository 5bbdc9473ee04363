use Rattle.std.proofs.Common.{◌≡◌, drop}
use Rattle.link_order.specs.Finds.{first_unknown}
use Rattle.link_order.proofs.matching.unknown_dylib.Given as goal

abbrev pub invariant-loop-item : goal.invariant-loop-item
invariant-loop-item g l =
    let m = g.R.RowSource.source l.rows in
    first_unknown m (drop l.item-index l.order) ≡ first_unknown m l.order
