-- Bytes that are kept, or zero bytes below them.
use Rattle.std.proofs.Common.{◌∙◌, ◌-◌, ap, subst, arith, length, take, drop}
use Rattle.std.proofs.lemmas.List.{take_rest}
use Rattle.exec_run.specs.declared.host.TheConstants.{STACK_START, STACK_END, STACK_SIZE}
use Rattle.exec_run.specs.Regions.{IsFrom}
use Rattle.exec_run.proofs.Filled.{kept_from, zeros_from}
use Rattle.exec_run.proofs.stack.Stack.bytes_from.Goals as goal

pub returns-then-low-at : goal.returns-then-low-at
returns-then-low-at c =
    let bytes = c.self.inside.bytes.items in
    let all = c.deref.result.now in
    let p = c.args.at - (STACK_END - c.len.result) in
    let rest = take (length all - p) (drop p all) in
    subst (λ bs. IsFrom bs (c.args.at - STACK_START) rest) c.self.view_is
    (kept_from STACK_SIZE bytes (c.args.at - STACK_START) (STACK_SIZE - length bytes) p rest (omega (arith, c.self.invariant.long)) (omega (arith, c.self.invariant.long, c.len.ensures, c.self.inside.bytes.ok.0, c.if-low-at.true)) (omega (arith, c.self.invariant.long, c.len.ensures, c.self.inside.bytes.ok.0, c.if-low-at.true))
    (take_rest all p ∙ ap (drop p) c.deref.ensures.value))

pub returns : goal.returns
returns c =
    let bytes = c.self.inside.bytes.items in
    subst (λ bs. IsFrom bs (c.args.at - STACK_START) c.zeros.result.now) c.self.view_is
    (zeros_from STACK_SIZE bytes (c.args.at - STACK_START) c.zeros.result.now c.zeros.ensures.zero c.zeros.ensures.some.0 (omega (arith, c.self.invariant.long, c.len.ensures, c.self.inside.bytes.ok.0, c.if-low-at.false, c.zeros.ensures.some.1)))
