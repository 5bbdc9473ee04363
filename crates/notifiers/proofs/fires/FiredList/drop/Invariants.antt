use Rattle.std.proofs.Common.{length}
use Rattle.notifiers.proofs.fires.FiredList.drop.Given as goal

abbrev pub decreases-loop-told : goal.decreases-loop-told
decreases-loop-told g l = length l.queue
