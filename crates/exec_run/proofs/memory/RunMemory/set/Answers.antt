-- A byte on the stack, or in a range below it.
use Rattle.std.proofs.Common.{◌≡◌, ◌∙◌, None, ap, subst}
use Rattle.list_laws.proofs.Options.{not_there}
use Rattle.rv_hart.specs.Map.{with_byte}
use Rattle.code_memory.specs.Mapped.{byte_at}
use Rattle.exec_run.specs.Regions.{with_top}
use Rattle.exec_run.proofs.Still.{still_above, still_forgotten, set_so, in_code}
use Rattle.exec_run.proofs.Tops.{top_rises, set_low, set_top, off_stack, none_low}
use Rattle.exec_run.proofs.Writes.{set_byte}
use Rattle.exec_run.proofs.memory.RunMemory.set.Goals as goal

pub returns-then-is_on_stack : goal.returns-then-is_on_stack
returns-then-is_on_stack c =
    let i = c.self.inside in
    let on = c.is_on_stack.ensures.0 c.if-is_on_stack.true in
    set_byte (with_top i.ranges i.stack) (with_top i.ranges c.set.new.self) _ c.args.at c.args.byte (top_rises i.ranges i.stack c.self.invariant.top) (set_top i.ranges i.stack c.set.new.self c.args.at c.args.byte c.self.invariant.top.long on.0 on.1 c.set.ensures.done)
    ∙ ap (λ ss. with_byte (byte_at ss) c.args.at c.args.byte) c.self.view_is

pub returns-in-Some : goal.returns-in-Some
returns-in-Some c =
    let i = c.self.inside in
    set_byte (with_top i.ranges i.stack) (with_top c.set-in-Some.new.self i.stack) c.in-Some.k c.args.at c.args.byte (top_rises i.ranges i.stack c.self.invariant.top) (set_low i.ranges c.set-in-Some.new.self i.stack c.in-Some.k c.args.at c.args.byte c.set-in-Some.ensures.done)
    ∙ ap (λ ss. with_byte (byte_at ss) c.args.at c.args.byte) c.self.view_is

pub returns-in_default : goal.returns-in_default
returns-in_default c =
    let i = c.self.inside in
    let off = off_stack c.is_on_stack.result c.args.at c.is_on_stack.ensures c.if-is_on_stack.false in
    let none = subst (λ ss. byte_at ss c.args.at ≡ None) c.self.view_is (none_low i.ranges i.stack c.args.at c.self.invariant.top off c.in_default.ensures.missing) in
    absurd (not_there (byte_at c.args.self.now c.args.at) none c.requires)

pub invariant_of-self : goal.invariant_of-self
invariant_of-self c =
    let i = c.self.inside in
    let on = c.is_on_stack.ensures.0 c.if-is_on_stack.true in
    let old = with_top i.ranges i.stack in
    let new = with_top i.ranges c.set.new.self in
    record {
      top = record { apart = c.self.invariant.top.apart; long = c.set.ensures.long };
      still = still_above old new i.decoded c.args.at 1
          (set_so old new c.args.at c.args.byte
          (set_byte old new _ c.args.at c.args.byte (top_rises i.ranges i.stack c.self.invariant.top) (set_top i.ranges i.stack c.set.new.self c.args.at c.args.byte c.self.invariant.top.long on.0 on.1 c.set.ensures.done))) on.0 c.self.invariant.still;
    }

pub forget-requires-clause-below : goal.forget-requires-clause-below
forget-requires-clause-below c = in_code c.self.inside.ranges c.in-Some.k c.args.at c.self.invariant.top.apart c.in-Some.ensures.found

pub invariant_of-self-in-Some : goal.invariant_of-self-in-Some
invariant_of-self-in-Some c =
    let i = c.self.inside in
    let old = with_top i.ranges i.stack in
    let new = with_top c.set-in-Some.new.self i.stack in
    record {
      top = record { apart = c.set-in-Some.ensures.apart; long = c.self.invariant.top.long };
      still = still_forgotten old new i.decoded c.forget.new.self c.args.at 1
          (set_so old new c.args.at c.args.byte
          (set_byte old new c.in-Some.k c.args.at c.args.byte (top_rises i.ranges i.stack c.self.invariant.top) (set_low i.ranges c.set-in-Some.new.self i.stack c.in-Some.k c.args.at c.args.byte c.set-in-Some.ensures.done)))
          c.forget.ensures c.self.invariant.still;
    }
