-- A value on the stack, or in a range below it.
use Rattle.std.proofs.Common.{◌∙◌, ⊎_elim, ap, sym, subst}
use Rattle.std.specs.Prelude.{IsSome}
use Rattle.rv_hart.specs.Map.{read, stored}
use Rattle.code_memory.specs.Mapped.{byte_at}
use Rattle.exec_run.specs.Decoded.{AreStill}
use Rattle.exec_run.specs.Regions.{with_top}
use Rattle.exec_run.proofs.Loads.{put_read}
use Rattle.exec_run.proofs.Still.{still_above, still_forgotten, stored_so, either, in_code}
use Rattle.exec_run.proofs.Tops.{top_rises, put_low, put_top, true_so, false_so}
use Rattle.exec_run.proofs.Writes.{put_bytes}
use Rattle.exec_run.proofs.memory.RunMemory.put.Goals as goal

pub returns-then-is_on_stack-clause-mapped : goal.returns-then-is_on_stack-clause-mapped
returns-then-is_on_stack-clause-mapped c =
    let i = c.self.inside in
    let on = c.is_on_stack.ensures.0 c.if-is_on_stack.true in
    true_so c.put.result _ _ c.put.ensures.done
    (λ put. subst (λ ss. IsSome (read (byte_at ss) c.args.at c.args.width)) c.self.view_is
    (put_read (with_top i.ranges i.stack) (with_top i.ranges c.put.new.self) _ c.args.at c.args.width c.args.value (top_rises i.ranges i.stack c.self.invariant.top) (put_top i.ranges i.stack c.put.new.self c.args.at c.args.width c.args.value c.self.invariant.top.long on.0 on.1 put)))

pub returns-then-is_on_stack-clause-done : goal.returns-then-is_on_stack-clause-done
returns-then-is_on_stack-clause-done c =
    let i = c.self.inside in
    let on = c.is_on_stack.ensures.0 c.if-is_on_stack.true in
    true_so c.put.result _ _ c.put.ensures.done
    (λ put.
    put_bytes (with_top i.ranges i.stack) (with_top i.ranges c.put.new.self) _ c.args.at c.args.width c.args.value (top_rises i.ranges i.stack c.self.invariant.top) (put_top i.ranges i.stack c.put.new.self c.args.at c.args.width c.args.value c.self.invariant.top.long on.0 on.1 put)
    ∙ ap (λ ss. stored (byte_at ss) c.args.at c.args.width c.args.value) c.self.view_is)

pub returns-then-is_on_stack-clause-kept : goal.returns-then-is_on_stack-clause-kept
returns-then-is_on_stack-clause-kept c =
    let i = c.self.inside in
    false_so c.put.result _ _ c.put.ensures.kept
    (λ same. ap (with_top i.ranges) same ∙ c.self.view_is)

pub invariant_of-self : goal.invariant_of-self
invariant_of-self c =
    let i = c.self.inside in
    let on = c.is_on_stack.ensures.0 c.if-is_on_stack.true in
    let old = with_top i.ranges i.stack in
    let new = with_top i.ranges c.put.new.self in
    record {
      top = record { apart = c.self.invariant.top.apart; long = c.put.ensures.long };
      still = ⊎_elim (λ put.
          still_above old new i.decoded c.args.at c.args.width
          (stored_so old new c.args.at c.args.width c.args.value
          (put_bytes old new _ c.args.at c.args.width c.args.value (top_rises i.ranges i.stack c.self.invariant.top) (put_top i.ranges i.stack c.put.new.self c.args.at c.args.width c.args.value c.self.invariant.top.long on.0 on.1 put))) on.0 c.self.invariant.still)
          (λ same. subst (λ s. AreStill (with_top i.ranges s) i.decoded) (sym same) c.self.invariant.still)
          (either c.put.result _ _ c.put.ensures.done c.put.ensures.kept);
    }

pub forget-requires-clause-below : goal.forget-requires-clause-below
forget-requires-clause-below c = in_code c.self.inside.ranges c.in-Some.k c.args.at c.self.invariant.top.apart c.in-Some.ensures.found

pub invariant_of-self-in-Some : goal.invariant_of-self-in-Some
invariant_of-self-in-Some c =
    let i = c.self.inside in
    let old = with_top i.ranges i.stack in
    let new = with_top c.put-in-Some.new.self i.stack in
    record {
      top = record { apart = c.put-in-Some.ensures.apart; long = c.self.invariant.top.long };
      still = still_forgotten old new i.decoded c.forget.new.self c.args.at c.args.width
          (stored_so old new c.args.at c.args.width c.args.value
          (put_bytes old new c.in-Some.k c.args.at c.args.width c.args.value (top_rises i.ranges i.stack c.self.invariant.top) (put_low i.ranges c.put-in-Some.new.self i.stack c.in-Some.k c.args.at c.args.width c.args.value c.if-not-put.ensures.done)))
          c.forget.ensures c.self.invariant.still;
    }

pub returns-then-not-put-clause-kept : goal.returns-then-not-put-clause-kept
returns-then-not-put-clause-kept c =
    let i = c.self.inside in
    ap (λ ss. with_top ss i.stack) c.if-not-put.ensures.kept ∙ c.self.view_is

pub returns-else-not-put-clause-mapped : goal.returns-else-not-put-clause-mapped
returns-else-not-put-clause-mapped c =
    let i = c.self.inside in
    subst (λ ss. IsSome (read (byte_at ss) c.args.at c.args.width)) c.self.view_is
    (put_read (with_top i.ranges i.stack) (with_top c.put-in-Some.new.self i.stack) c.in-Some.k c.args.at c.args.width c.args.value (top_rises i.ranges i.stack c.self.invariant.top) (put_low i.ranges c.put-in-Some.new.self i.stack c.in-Some.k c.args.at c.args.width c.args.value c.if-not-put.ensures.done))

pub returns-else-not-put-clause-done : goal.returns-else-not-put-clause-done
returns-else-not-put-clause-done c =
    let i = c.self.inside in
    put_bytes (with_top i.ranges i.stack) (with_top c.put-in-Some.new.self i.stack) c.in-Some.k c.args.at c.args.width c.args.value (top_rises i.ranges i.stack c.self.invariant.top) (put_low i.ranges c.put-in-Some.new.self i.stack c.in-Some.k c.args.at c.args.width c.args.value c.if-not-put.ensures.done)
    ∙ ap (λ ss. stored (byte_at ss) c.args.at c.args.width c.args.value) c.self.view_is
