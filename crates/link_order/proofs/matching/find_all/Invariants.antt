use Rattle.std.proofs.Common.{◌≡◌, ◌++◌, drop}
use Rattle.link_order.specs.Finds.{finds}
use Rattle.link_order.proofs.matching.find_all.Given as goal

abbrev pub invariant-loop-w : goal.invariant-loop-w
invariant-loop-w g l =
    let m = g.R.RowSource.source l.rows in
    l.all.items ++ finds m l.order (drop l.w-index l.wanted) ≡ finds m l.order l.wanted
