use Rattle.std.proofs.Common.{length}
use Rattle.rv_asm.proofs.Orders.{all_inside}
use Rattle.rv_asm.proofs.order.order_of.Goals as goal

pub returns-clause-inside : goal.returns-clause-inside
returns-clause-inside c =
    rw (c.in_ok-push_others.ensures, c.in_ok-numbers.ensures) (all_inside c.args.symbols.now c.labels.result.now (length c.args.symbols.now.names) c.labels.ensures.inside)
