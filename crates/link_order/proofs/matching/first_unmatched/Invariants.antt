use Rattle.std.proofs.Common.{◌≡◌, drop}
use Rattle.session_model.specs.Lists.{first_some}
use Rattle.link_order.specs.Finds.{missing_in}
use Rattle.link_order.proofs.matching.first_unmatched.Given as goal

abbrev pub invariant-loop-find : goal.invariant-loop-find
invariant-loop-find l =
    first_some missing_in (drop l.find-index l.all) ≡ first_some missing_in l.all
