-- What is counted of what is kept is counted of what the frontier is.
use Rattle.std.proofs.Common.{subst}
use Rattle.dep_groups.specs.Frontier.{Waiting, IsPendingCount}
use Rattle.dep_groups.proofs.frontier.Frontier.pending_count.Goals as goal

pub returns-clause-count : goal.returns-clause-count
returns-clause-count c = subst (λ (w : Waiting). IsPendingCount w.entries c.args.instance.0 c.count_pending.result) c.self.view_is c.count_pending.ensures.counted
