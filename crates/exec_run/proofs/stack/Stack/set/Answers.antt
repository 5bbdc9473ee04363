-- The bytes reach down to the address, and one of them is written.
use Rattle.std.proofs.Common.{◌≡◌, ◌∙◌, ◌-◌, ◌≤◌, ap, set, arith, length, length-set}
use Rattle.exec_run.specs.declared.host.TheConstants.{STACK_START, STACK_END, STACK_SIZE}
use Rattle.exec_run.proofs.Filled.{filled_length, set_kept}
use Rattle.exec_run.proofs.stack.Stack.set.Goals as goal

pub returns-clause-done : goal.returns-clause-done
returns-clause-done c =
    let bytes = c.reach.new.bytes.items in
    let long : c.len.result ≡ length bytes = omega (arith, c.len.ensures, c.reach.new.bytes.ok.0) in
    let within : length bytes ≤ STACK_SIZE = c.reach.ensures.room.long in
    let reached : STACK_END - c.args.at ≤ length bytes = c.reach.ensures.reached in
    set_kept STACK_SIZE bytes (c.args.at - STACK_START) (STACK_SIZE - length bytes) (c.args.at - (STACK_END - c.len.result)) c.args.byte (omega (arith, within)) (omega (arith, long, within, reached))
    ∙ ap (λ bs. set bs (c.args.at - STACK_START) c.args.byte) (c.reach.ensures.same ∙ c.self.view_is)

pub returns-clause-long : goal.returns-clause-long
returns-clause-long c =
    let bytes = c.reach.new.bytes.items in
    filled_length STACK_SIZE _ (omega (arith, c.reach.ensures.room.long, length-set bytes (c.args.at - (STACK_END - c.len.result)) c.args.byte))
