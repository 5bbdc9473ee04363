-- A step of an instruction that is kept, and what its answer makes of the run.
use Rattle.std.proofs.Common.{◌∙◌, inr, refl}
use Rattle.rv_hart.specs.declared.step.Step.TheVariants.{Next, Ecall, Trap}
use Rattle.rv_hart.specs.Parts.{hart_of}
use Rattle.code_memory.specs.Mapped.{byte_at}
use Rattle.exec_run.specs.Machine.{state_at}
use Rattle.exec_run.proofs.Calls.{taken_of, passed_of}
use Rattle.exec_run.proofs.Still.{is_away}
use Rattle.exec_run.proofs.machine.Machine.turn_known.Goals as goal

pub step_known-requires-clause-known : goal.step_known-requires-clause-known
step_known-requires-clause-known c = c.requires.kept.known

pub returns-in-Next-clause-passed : goal.returns-in-Next-clause-passed
returns-in-Next-clause-passed c = record {
  away = is_away c.args.self.now.memory c.args.pc.now c.args.insn c.requires.kept;
  taken = record { done = record { hart = hart_of c.step_known.new.pc c.step_known.new.x; map = byte_at c.step_known.new.memory; answer = Next }; is_step = c.in-Next.ensures.step; leads = refl };
}

pub returns-in-Trap-clause-passed : goal.returns-in-Trap-clause-passed
returns-in-Trap-clause-passed c = inr (record {
  away = is_away c.args.self.now.memory c.args.pc.now c.args.insn c.requires.kept;
  taken = (record { done = record { hart = hart_of c.step_known.new.pc c.step_known.new.x; map = byte_at c.step_known.new.memory; answer = Trap c.in-Trap.at c.in-Trap.cause }; is_step = c.in-Trap.ensures.step; leads = refl }, refl);
})

pub returns-in-Ecall-clause-passed : goal.returns-in-Ecall-clause-passed
returns-in-Ecall-clause-passed c =
    passed_of c.call_at.result (state_at c.args.pc.now c.args.self.now) _ (is_away c.args.self.now.memory c.args.pc.now c.args.insn c.requires.kept)
    (taken_of c.call_at.result (state_at c.args.pc.now c.args.self.now) _ (record { hart = hart_of c.step_known.new.pc c.step_known.new.x; map = byte_at c.step_known.new.memory; answer = Ecall }) c.in-Ecall.ensures.step refl c.call_at.ensures.called)

pub returns-in-Ecall-clause-zero : goal.returns-in-Ecall-clause-zero
returns-in-Ecall-clause-zero c = c.call_at.ensures.zero ∙ c.in-Ecall.ensures.zero
