-- What is kept is the word's, below the stack.
use Rattle.std.proofs.Common.{subst, sym}
use Rattle.rv_hart.specs.Fetched.{IsKnown}
use Rattle.code_memory.specs.Mapped.{byte_at}
use Rattle.exec_run.specs.Regions.{with_top}
use Rattle.exec_run.proofs.Still.{still_kept}
use Rattle.exec_run.proofs.memory.RunMemory.keep.Goals as goal

pub invariant_of-self : goal.invariant_of-self
invariant_of-self c =
    let i = c.self.inside in
    record {
      top = c.self.invariant.top;
      still = still_kept (with_top i.ranges i.stack) i.decoded c.keep.new.self c.args.at c.args.insn c.keep.ensures c.requires.aligned c.if-at-lt-STACK_START.true
          (subst (λ ss. IsKnown (byte_at ss) c.args.at c.args.insn) (sym c.self.view_is) c.requires.known) c.self.invariant.still;
    }
