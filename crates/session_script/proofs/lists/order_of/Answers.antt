use Rattle.session_script.specs.Forms.{item_in}
use Rattle.session_script.proofs.Steps.{one_more}
use Rattle.session_script.proofs.lists.order_of.Goals as goal

pub loop-item-preserved : goal.loop-item-preserved
loop-item-preserved c = one_more (item_in c.args.dylibs.now) c.args.items.now c.loop-item.item-index _ c.loop-item.order.items c.item_of.result _ _ c.loop-item-test.true c.in_ok-push.ensures.items c.item_of.ensures c.loop-item.invariant
