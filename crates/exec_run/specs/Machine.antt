-- What a machine is as the state of a run, and how its calls end.
use Rattle.std.specs.Prelude.{◌≡◌, ◌⊎◌, ℕ, Option, Some, None, true, false}
use Rattle.rv_hart.specs.Parts.{hart_of}
use Rattle.code_memory.specs.Mapped.{byte_at}
use Rattle.exec_run.specs.declared.machine.Machine.{Machine}
use Rattle.exec_run.specs.declared.ran.RunEnd.{RunEnd}
use Rattle.exec_run.specs.declared.ran.RunEnd.TheVariants.{Exited}
use Rattle.rv_hart.specs.Registers.{reg}
use Rattle.exec_run.specs.Host.{State, goes, ends, called, write_call}
use Rattle.exec_run.specs.Run.{IsTurn, is_home}

-- the state of a run that a machine is in
abbrev pub state_of : Machine → State
state_of m = record { hart = m.hart; map = byte_at m.memory; output = m.output.items }

-- the same with the program counter apart
abbrev pub state_at : ℕ → Machine → State
state_at pc m = record { hart = hart_of pc m.hart.x; map = byte_at m.memory; output = m.output.items }

-- a call to the host from one state: the run goes on in another, or it has ended with what was written
abbrev pub IsCalled : State → Option RunEnd → State → Type 0
IsCalled old None new = called old ≡ goes new
IsCalled old (Some e) new = (called old ≡ ends e) × (new.output ≡ old.output)

-- the same of a write
abbrev pub IsWritten : State → Option RunEnd → State → Type 0
IsWritten old None new = write_call old ≡ goes new
IsWritten old (Some e) new = (write_call old ≡ ends e) × (new.output ≡ old.output)

-- a turn from one state: the run goes on in another, or it has ended with what was written
abbrev pub IsTaken : State → Option RunEnd → State → Type 0
IsTaken old None new = IsTurn old (goes new)
IsTaken old (Some e) new = IsTurn old (ends e) × (new.output ≡ old.output)

-- the hart is home, so the run has exited
pub record IsHome (old : State) (e : RunEnd) (new : State) : Type 0 where
  pub home : is_home old ≡ true
  pub exited : e ≡ Exited (reg old.hart 10)
  pub same : new.output ≡ old.output

-- a turn from a state that isn't home
pub record IsAway (old : State) (end : Option RunEnd) (new : State) : Type 0 where
  pub away : is_home old ≡ false
  pub taken : IsTaken old end new

-- the run has exited at home, or a turn was done
abbrev pub IsPassed : State → Option RunEnd → State → Type 0
IsPassed old None new = IsAway old None new
IsPassed old (Some e) new = IsHome old e new ⊎ IsAway old (Some e) new
