use Rattle.std.proofs.Common.{◌≡◌, drop}
use Rattle.session_model.specs.Lists.{first_some}
use Rattle.link_order.specs.Finds.{failed_in}
use Rattle.link_order.proofs.matching.first_failed.Given as goal

abbrev pub invariant-loop-find : goal.invariant-loop-find
invariant-loop-find g l =
    let m = g.R.RowSource.source l.rows in
    first_some (failed_in m) (drop l.find-index l.all) ≡ first_some (failed_in m) l.all
