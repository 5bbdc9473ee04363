-- All bytes are zero where none is kept.
use Rattle.std.proofs.Common.{sym, subst, ap, arith, length}
use Rattle.exec_run.specs.declared.host.TheConstants.{STACK_SIZE}
use Rattle.exec_run.specs.Regions.{filled, AreZeros}
use Rattle.exec_run.proofs.Filled.{filled_none}
use Rattle.exec_run.proofs.stack.Stack.new.Goals as goal

pub invariant_of-result : goal.invariant_of-result
invariant_of-result c = record { long = omega (arith, ap length c.in_ok-with_capacity.ensures.items); room = c.in_ok-with_capacity.ensures.capacity }

pub returns : goal.returns
returns c = subst (λ bs. AreZeros (filled STACK_SIZE bs) STACK_SIZE) (sym c.in_ok-with_capacity.ensures.items) (filled_none STACK_SIZE)
