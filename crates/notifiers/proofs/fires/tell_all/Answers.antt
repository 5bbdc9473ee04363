use Rattle.notifiers.proofs.Telling.{numbered_first, numbered_more, numbered_rest, telling_more}
use Rattle.notifiers.proofs.fires.tell_all.Goals as goal

pub loop-notice-preserved : goal.loop-notice-preserved
loop-notice-preserved g c =
    let i = c.loop-notice.invariant in
    let first = c.in-Some.ensures.first in
    let number = g.N.Notify.number in (
      telling_more g.N.Notify.heard _ _ _ _ _ _ c.in-Some.notice c.tell.result i.0 first c.tell.ensures.told c.push.ensures,
      numbered_rest number _ _ c.in-Some.notice first i.1,
      numbered_more number _ _ c.in-Some.notice c.tell.result c.push.ensures i.2 (numbered_first number _ _ c.in-Some.notice first i.1) c.tell.ensures.same c.tell.ensures.told.note,
    )
