-- A run: turn by turn, up to its end.
use Rattle.std.specs.Prelude.{◌≡◌, ℕ, zero, suc, Bool, List, [], ◌==◌}
use Rattle.std.specs.Bool.{MatchBool}
use Rattle.rv_hart.specs.declared.step.Step.{Step}
use Rattle.rv_hart.specs.declared.step.Step.TheVariants.{Next, Ecall, Trap as IsTrap}
use Rattle.rv_hart.specs.Map.{Map}
use Rattle.rv_hart.specs.Registers.{reg}
use Rattle.rv_hart.specs.Step.{Stepped, IsStep}
use Rattle.exec_run.specs.declared.host.TheConstants.{HOME}
use Rattle.exec_run.specs.declared.ran.RunEnd.{RunEnd}
use Rattle.exec_run.specs.declared.ran.RunEnd.TheVariants.{Exited, Trap, OutOfFuel}
use Rattle.exec_run.specs.Host.{State, Turn, goes, ends, called}
use Rattle.exec_run.specs.Start.{with_stack, started}

-- what the answer of a step makes of the run
abbrev pub after : State → Step → Turn
after s Next = goes s
after s Ecall = called s
after s (IsTrap pc cause) = ends (Trap pc cause)

-- the run after a step
abbrev pub stepped : State → Stepped → State
stepped s d = record { hart = d.hart; map = d.map; output = s.output }

-- a turn: one step of the hart, and what its answer makes of the run
pub record IsTurn (s : State) (t : Turn) : Type 0 where
  pub done : Stepped
  pub is_step : IsStep s.hart s.map done
  pub leads : t ≡ after (stepped s done) done.answer

-- the hart has returned from where it was started
abbrev pub is_home : State → Bool
is_home s = s.hart.pc == HOME

-- the run has this end, with what was written so far
pub record IsEnd (s : State) (e : RunEnd) (end : RunEnd) (output : List ℕ) : Type 0 where
  pub end_is : end ≡ e
  pub output_is : output ≡ s.output

-- how the run goes on after a turn
abbrev pub Continues : (State → Type 0) → State → RunEnd → List ℕ → Turn → Type 0
Continues Rest s end output (goes next) = Rest next
Continues Rest s end output (ends e) = IsEnd s e end output

-- from the state on with that fuel the run has this end and output: it is home, out of fuel, or does a turn for one fuel
unfoldable pub RunsFrom : ℕ → State → RunEnd → List ℕ → Type 0
RunsFrom zero s end output =
    MatchBool (is_home s) (IsEnd s (Exited (reg s.hart 10)) end output) (IsEnd s OutOfFuel end output)
RunsFrom (suc fuel) s end output =
    MatchBool (is_home s)
    (IsEnd s (Exited (reg s.hart 10)) end output)
    ((t : Turn) × IsTurn s t × Continues (λ next. RunsFrom fuel next end output) s end output t)

-- the state that a run starts in
abbrev pub start : Map → ℕ → List ℕ → State
start memory pc args = record { hart = started pc args; map = with_stack memory; output = [] }

-- the run of the code at pc, on a memory and a stack of its own
abbrev pub RunsTo : Map → ℕ → List ℕ → ℕ → RunEnd → List ℕ → Type 0
RunsTo memory pc args fuel end output = RunsFrom fuel (start memory pc args) end output

-- every end and output of the run are these
abbrev pub OnlyRunsTo : Map → ℕ → List ℕ → ℕ → RunEnd → List ℕ → Type 0
OnlyRunsTo memory pc args fuel end output =
    (end' : RunEnd) (output' : List ℕ) → RunsTo memory pc args fuel end' output' → (end' ≡ end) × (output' ≡ output)

-- a run has one end and one output
abbrev pub OneEnd : Type 0
OneEnd =
    (memory : Map) (pc : ℕ) (args : List ℕ) (fuel : ℕ) (end end' : RunEnd) (output output' : List ℕ)
    → RunsTo memory pc args fuel end output → RunsTo memory pc args fuel end' output' → (end ≡ end') × (output ≡ output')
