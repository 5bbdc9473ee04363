use Rattle.std.proofs.Common.{◌≡◌, drop}
use Rattle.session_model.specs.Lists.{first_some}
use Rattle.link_order.specs.Finds.{offered_in}
use Rattle.link_order.proofs.matching.first_offer.Given as goal

abbrev pub invariant-loop-find : goal.invariant-loop-find
invariant-loop-find l =
    first_some offered_in (drop l.find-index l.all) ≡ first_some offered_in l.all
