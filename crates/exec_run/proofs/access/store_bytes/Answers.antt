-- One byte after another is stored, the lowest first.
use Rattle.std.proofs.Common.{◌≡◌, ◌∙◌, ◌+◌, ◌-◌, ◌/◌, ◌%◌, ap, sym, subst, arith}
use Rattle.std.specs.Prelude.{IsSome}
use Rattle.rv_hart.specs.Map.{Map, stored, with_byte}
use Rattle.code_memory.specs.Mapped.{byte_at}
use Rattle.exec_run.proofs.Loads.{below_each, mapped_each, mapped_after, stored_step, stored_done}
use Rattle.exec_run.proofs.access.store_bytes.Goals as goal

pub loop-k-init : goal.loop-k-init
loop-k-init c = record {
  same = ap (λ a. stored (byte_at c.args.memory.now) a (c.args.width - 0) c.args.value) (let e : c.args.at + 0 ≡ c.args.at = omega arith in e)
      ∙ ap (λ n. stored (byte_at c.args.memory.now) c.args.at n c.args.value) (let e : c.args.width - 0 ≡ c.args.width = omega arith in e);
  mapped = λ j less. mapped_each (byte_at c.args.memory.now) c.args.at c.args.width j c.requires less;
}

pub overflow_add-at : goal.overflow_add-at
overflow_add-at c = omega (arith, c.from.ensures, below_each (byte_at c.args.memory.now) c.args.at c.args.width c.loop-k.k c.requires (omega arith))

pub set-requires : goal.set-requires
set-requires c =
    subst (λ k. IsSome (byte_at c.loop-k.memory (c.args.at + k))) (sym c.from.ensures) (c.loop-k.invariant.mapped c.loop-k.k (omega arith))

pub loop-k-preserved : goal.loop-k-preserved
loop-k-preserved c =
    let old : Map = byte_at c.loop-k.memory in
    let done : byte_at c.set.new.self ≡ with_byte old (c.args.at + c.loop-k.k) (c.loop-k.rest % 256) =
    c.set.ensures ∙ ap (λ k. with_byte old (c.args.at + k) (c.loop-k.rest % 256)) c.from.ensures in
    record {
      same = ap (λ (m : Map). stored m (c.args.at + (c.loop-k.k + 1)) (c.args.width - (c.loop-k.k + 1)) (c.loop-k.rest / 256)) done
          ∙ sym (stored_step old (c.args.at + c.loop-k.k) (c.args.at + (c.loop-k.k + 1)) (c.args.width - c.loop-k.k) (c.args.width - (c.loop-k.k + 1)) c.loop-k.rest (omega arith) (omega arith))
          ∙ c.loop-k.invariant.same;
      mapped = λ j less. subst (λ (m : Map). IsSome (m (c.args.at + j))) (sym done) (mapped_after old (c.args.at + c.loop-k.k) (c.loop-k.rest % 256) (c.args.at + j) (c.loop-k.invariant.mapped j less));
    }

pub returns : goal.returns
returns c =
    sym (stored_done (byte_at c.loop-k.memory) (c.args.at + c.loop-k.k) (c.args.width - c.loop-k.k) c.loop-k.rest (omega arith)) ∙ c.loop-k.invariant.same
