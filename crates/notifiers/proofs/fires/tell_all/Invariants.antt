use Rattle.std.proofs.Common.{length}
use Rattle.notifiers.specs.Notices.{AreNumbered}
use Rattle.notifiers.proofs.Telling.{IsTelling}
use Rattle.notifiers.proofs.fires.tell_all.Given as goal

abbrev pub invariant-loop-notice : goal.invariant-loop-notice
invariant-loop-notice g l = IsTelling g.N.Notify.heard l.initial.from l.from l.initial.to l.to × AreNumbered g.N.Notify.number l.from × AreNumbered g.N.Notify.number l.to

abbrev pub decreases-loop-notice : goal.decreases-loop-notice
decreases-loop-notice g l = length l.from
