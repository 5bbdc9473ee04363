-- Bytes of a range, or of the stack above them.
use Rattle.std.proofs.Common.{◌≡◌, None, subst}
use Rattle.code_memory.specs.Mapped.{byte_at}
use Rattle.exec_run.specs.Regions.{IsRest}
use Rattle.exec_run.proofs.Tops.{rest_low, rest_top, off_stack, none_low}
use Rattle.exec_run.proofs.memory.RunMemory.code_from.Goals as goal

pub returns-in-Some-clause-found : goal.returns-in-Some-clause-found
returns-in-Some-clause-found c =
    let i = c.self.inside in
    subst (λ ss. IsRest ss c.args.at c.in-Some.rest.now) c.self.view_is (rest_low i.ranges i.stack c.args.at c.in-Some.rest.now c.self.invariant.top c.in-Some.ensures.found)

pub returns-then-is_on_stack-clause-found : goal.returns-then-is_on_stack-clause-found
returns-then-is_on_stack-clause-found c =
    let i = c.self.inside in
    let on = c.is_on_stack.ensures.0 c.if-is_on_stack.true in
    subst (λ ss. IsRest ss c.args.at c.bytes_from.result.now) c.self.view_is (rest_top i.ranges i.stack c.args.at c.bytes_from.result.now c.self.invariant.top on.0 c.bytes_from.ensures)

pub returns-clause-missing : goal.returns-clause-missing
returns-clause-missing c =
    let i = c.self.inside in
    let off = off_stack c.is_on_stack.result c.args.at c.is_on_stack.ensures c.if-is_on_stack.false in
    subst (λ ss. byte_at ss c.args.at ≡ None) c.self.view_is (none_low i.ranges i.stack c.args.at c.self.invariant.top off c.in_default.ensures.missing)
