-- The run is home, out of fuel, or does a turn for one fuel.
use Rattle.std.proofs.Common.{◌≡◌, ◌∙◌, ◌+◌, ◌-◌, ◌%◌, ℕ, refl, sym, subst, arith}
use Rattle.std.proofs.lemmas.Bool.{eq-eqb}
use Rattle.rv_hart.specs.declared.hart.Hart.{Hart}
use Rattle.rv_hart.specs.Parts.{hart_of}
use Rattle.rv_hart.specs.Registers.{reg}
use Rattle.exec_run.specs.declared.host.TheConstants.{HOME}
use Rattle.exec_run.specs.declared.ran.RunEnd.TheVariants.{Exited, OutOfFuel}
use Rattle.exec_run.specs.Machine.{state_of, state_at, IsPassed}
use Rattle.exec_run.specs.Run.{RunsFrom}
use Rattle.exec_run.proofs.Calls.{not_equal}
use Rattle.exec_run.proofs.Runs.{runs_home, runs_out, runs_turn, runs_over, runs_misaligned}
use Rattle.exec_run.proofs.machine.Machine.run.Goals as goal

-- what a register holds doesn't depend on the program counter
a0_at : (hart : Hart) (pc : ℕ) → reg hart 10 ≡ reg (hart_of pc hart.x) 10
unfolding reg
a0_at hart pc = refl

pub returns-then-pc-ne0 : goal.returns-then-pc-ne0
returns-then-pc-ne0 c =
    let s = state_of c.args.self.now in
    subst (λ e. RunsFrom c.args.fuel s e c.args.self.now.output.items) (sym c.misaligned_end.ensures)
    (runs_misaligned c.args.fuel s c.if-pc-ne0.true (not_equal c.args.self.now.hart.pc HOME (λ e. c.if-pc-ne0.true (let h : c.args.self.now.hart.pc % 4 ≡ 0 = omega (arith, e) in h))))

pub loop-turn-init : goal.loop-turn-init
loop-turn-init c =
    let all : c.args.fuel - 0 ≡ c.args.fuel = omega arith in
    record { runs = λ end output runs. subst (λ n. RunsFrom n (state_of c.args.self.now) end output) all runs; zero = c.requires; aligned = c.if-pc-ne0.false }

pub turn-requires-clause-zero : goal.turn-requires-clause-zero
turn-requires-clause-zero c = c.loop-turn.invariant.zero

pub turn-requires-clause-aligned : goal.turn-requires-clause-aligned
turn-requires-clause-aligned c = c.loop-turn.invariant.aligned

pub returns-in-Some : goal.returns-in-Some
returns-in-Some c =
    let s = state_at c.loop-turn.pc c.loop-turn.self in
    let passed = subst (λ o. IsPassed s o (state_at c.turn.new.pc c.turn.new.self)) c.in-Some.is c.in_ok-end.ensures.passed in
    c.loop-turn.invariant.runs c.in-Some.end c.turn.new.self.output.items
    (runs_over (c.args.fuel - c.loop-turn._turn) (c.args.fuel - (c.loop-turn._turn + 1)) s (state_at c.turn.new.pc c.turn.new.self) c.in-Some.end (omega arith) passed)

pub loop-turn-preserved : goal.loop-turn-preserved
loop-turn-preserved c =
    let s = state_at c.loop-turn.pc c.loop-turn.self in
    let passed = subst (λ o. IsPassed s o (state_at c.turn.new.pc c.turn.new.self)) c.in_default.is c.in_ok-end.ensures.passed in
    record {
      runs = λ end output rest.
          c.loop-turn.invariant.runs end output
          (runs_turn (c.args.fuel - c.loop-turn._turn) (c.args.fuel - (c.loop-turn._turn + 1)) s (state_at c.turn.new.pc c.turn.new.self) end output (omega arith) passed.away passed.taken rest);
      zero = c.turn.ensures.zero;
      aligned = c.turn.ensures.aligned;
    }

pub returns-then-pc : goal.returns-then-pc
returns-then-pc c =
    let s = state_at c.loop-turn.pc c.loop-turn.self in
    c.loop-turn.invariant.runs OutOfFuel c.loop-turn.self.output.items
    (runs_out (c.args.fuel - c.loop-turn._turn) s (omega arith) (not_equal c.loop-turn.pc HOME c.if-pc.true))

pub returns : goal.returns
returns c =
    let s = state_at c.loop-turn.pc c.loop-turn.self in
    c.loop-turn.invariant.runs (Exited c.register.result) c.loop-turn.self.output.items
    (subst (λ a. RunsFrom (c.args.fuel - c.loop-turn._turn) s (Exited a) c.loop-turn.self.output.items) (sym (c.register.ensures ∙ a0_at c.loop-turn.self.hart c.loop-turn.pc))
    (runs_home (c.args.fuel - c.loop-turn._turn) s (eq-eqb c.loop-turn.pc HOME c.if-pc.false)))
