use Rattle.notifiers.proofs.Telling.{heard_rest, numbered_rest}
use Rattle.notifiers.proofs.fires.FiredList.pop.Goals as goal

pub invariant_of-self-2 : goal.invariant_of-self-2
invariant_of-self-2 g c = (
  heard_rest g.N.Notify.heard _ c.pop.new.self c.in_ok-notice.notice c.in_ok-notice.ensures.first c.self.invariant.0,
  numbered_rest g.N.Notify.number _ c.pop.new.self c.in_ok-notice.notice c.in_ok-notice.ensures.first c.self.invariant.1,
)
