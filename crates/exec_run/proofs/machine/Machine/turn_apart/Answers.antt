-- The run is home, or a step is done whose instruction is looked for.
use Rattle.std.proofs.Common.{◌≡◌, ◌∙◌, ℕ, ap, inl, inr, refl}
use Rattle.std.proofs.lemmas.Bool.{eq-eqb}
use Rattle.rv_hart.specs.declared.hart.Hart.{Hart}
use Rattle.rv_hart.specs.declared.step.Step.TheVariants.{Next, Ecall, Trap}
use Rattle.rv_hart.specs.Parts.{hart_of}
use Rattle.rv_hart.specs.Registers.{reg}
use Rattle.code_memory.specs.Mapped.{byte_at}
use Rattle.exec_run.specs.declared.host.TheConstants.{HOME}
use Rattle.exec_run.specs.declared.ran.RunEnd.TheVariants.{Exited}
use Rattle.exec_run.specs.Machine.{state_at}
use Rattle.exec_run.proofs.Calls.{taken_of, passed_of, not_equal}
use Rattle.exec_run.proofs.machine.Machine.turn_apart.Goals as goal

-- what a register holds doesn't depend on the program counter
a0_at : (hart : Hart) (pc : ℕ) → reg hart 10 ≡ reg (hart_of pc hart.x) 10
unfolding reg
a0_at hart pc = refl

pub returns-then-pc-eq-HOME-clause-passed : goal.returns-then-pc-eq-HOME-clause-passed
returns-then-pc-eq-HOME-clause-passed c = inl (record {
  home = eq-eqb c.args.pc.now HOME c.if-pc-eq-HOME.true;
  exited = ap Exited (c.register.ensures ∙ a0_at c.args.self.now.hart c.args.pc.now);
  same = refl;
})

pub returns-in-Next-clause-passed : goal.returns-in-Next-clause-passed
returns-in-Next-clause-passed c = record {
  away = not_equal c.args.pc.now HOME c.if-pc-eq-HOME.false;
  taken = record { done = record { hart = hart_of c.step_apart.new.pc c.step_apart.new.x; map = byte_at c.step_apart.new.memory; answer = Next }; is_step = c.in-Next.ensures.step; leads = refl };
}

pub returns-in-Trap-clause-passed : goal.returns-in-Trap-clause-passed
returns-in-Trap-clause-passed c = inr (record {
  away = not_equal c.args.pc.now HOME c.if-pc-eq-HOME.false;
  taken = (record { done = record { hart = hart_of c.step_apart.new.pc c.step_apart.new.x; map = byte_at c.step_apart.new.memory; answer = Trap c.in-Trap.at c.in-Trap.cause }; is_step = c.in-Trap.ensures.step; leads = refl }, refl);
})

pub returns-in-Ecall-clause-passed : goal.returns-in-Ecall-clause-passed
returns-in-Ecall-clause-passed c =
    passed_of c.call_at.result (state_at c.args.pc.now c.args.self.now) _ (not_equal c.args.pc.now HOME c.if-pc-eq-HOME.false)
    (taken_of c.call_at.result (state_at c.args.pc.now c.args.self.now) _ (record { hart = hart_of c.step_apart.new.pc c.step_apart.new.x; map = byte_at c.step_apart.new.memory; answer = Ecall }) c.in-Ecall.ensures.step refl c.call_at.ensures.called)
