use Rattle.rv_asm.proofs.Orders.{others_step}
use Rattle.rv_asm.proofs.order.push_others.Goals as goal

pub loop-number-preserved : goal.loop-number-preserved
loop-number-preserved c = others_step c.args.symbols.now c.loop-number.number _ _ _ c.loop-number.invariant c.in_ok-push_other.ensures
