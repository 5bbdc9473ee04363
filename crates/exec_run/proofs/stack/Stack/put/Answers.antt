-- The bytes that are kept have the value, where they are at the end of all.
use Rattle.std.proofs.Common.{◌≡◌, ◌∙◌, ◌-◌, ap, sym, subst, arith, length}
use Rattle.exec_run.specs.declared.host.TheConstants.{STACK_START, STACK_END, STACK_SIZE}
use Rattle.exec_run.specs.Regions.{filled, IsPutAt}
use Rattle.exec_run.proofs.Filled.{filled_length, put_kept}
use Rattle.exec_run.proofs.Writes.{number_length}
use Rattle.exec_run.proofs.stack.Stack.put.Goals as goal

pub returns-then-at-low-clause-long : goal.returns-then-at-low-clause-long
returns-then-at-low-clause-long c = ap length (sym c.self.view_is) ∙ filled_length STACK_SIZE c.self.inside.bytes.items c.self.invariant.long

pub returns-then-at-from-clause-long : goal.returns-then-at-from-clause-long
returns-then-at-from-clause-long c = ap length (sym c.self.view_is) ∙ filled_length STACK_SIZE c.self.inside.bytes.items c.self.invariant.long

pub returns-clause-done : goal.returns-clause-done
returns-clause-done c =
    let bytes = c.self.inside.bytes.items in
    subst (λ bs. IsPutAt bs (filled STACK_SIZE c.put.new.bytes.items) (c.args.at - STACK_START) c.args.width c.args.value) c.self.view_is
    (put_kept STACK_SIZE bytes c.put.new.bytes.items (c.args.at - STACK_START) (STACK_SIZE - length bytes) (c.args.at - (STACK_END - c.len.result)) c.args.width c.args.value (omega arith) (omega arith) (omega arith) c.put.ensures.items)

pub returns-clause-long : goal.returns-clause-long
returns-clause-long c =
    let bytes = c.self.inside.bytes.items in
    let same : length c.put.new.bytes.items ≡ length bytes = ap length c.put.ensures.items ∙ number_length bytes (c.args.at - (STACK_END - c.len.result)) c.args.width c.args.value in
    filled_length STACK_SIZE c.put.new.bytes.items (omega arith)

pub invariant_of-self : goal.invariant_of-self
invariant_of-self c =
    let bytes = c.self.inside.bytes.items in
    let same : length c.put.new.bytes.items ≡ length bytes = ap length c.put.ensures.items ∙ number_length bytes (c.args.at - (STACK_END - c.len.result)) c.args.width c.args.value in
    record { long = omega (arith, c.self.invariant.long); room = omega (arith, c.self.invariant.room, c.put.ensures.capacity) }
