use Rattle.std.proofs.Common.{refl, rules}
use Rattle.block_groups.proofs.Searches.{came_noted}
use Rattle.block_groups.proofs.backwards.come_to.Goals as goal

pub returns-in_ok-push-clause-noted : goal.returns-in_ok-push-clause-noted
returns-in_ok-push-clause-noted c = came_noted c.args.search.now _ c.args.block (record { within = c.requires.within; fresh = search rules; seen = refl; found = c.in_ok-push.ensures.items }) c.requires.noted
