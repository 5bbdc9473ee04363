-- Runs that stay within what is mapped, and larger memories.
use Rattle.std.specs.Prelude.{◌≡◌, ◌↔◌, ℕ, zero, suc, Some, List, IsSome}
use Rattle.std.specs.Bool.{MatchBool}
use Rattle.rv_hart.specs.declared.step.Cause.{Cause}
use Rattle.rv_hart.specs.declared.step.Cause.TheVariants.{Fetch, Illegal, Misaligned, Load, Store, Break}
use Rattle.rv_hart.specs.declared.step.Step.{Step}
use Rattle.rv_hart.specs.declared.step.Step.TheVariants.{Next, Ecall, Trap}
use Rattle.rv_hart.specs.Map.{Map}
use Rattle.rv_hart.specs.Registers.{reg}
use Rattle.rv_hart.specs.Step.{Stepped, IsStep}
use Rattle.exec_run.specs.declared.ran.RunEnd.{RunEnd}
use Rattle.exec_run.specs.Bytes.{bytes_from}
use Rattle.exec_run.specs.Host.{State, Turn, goes, ends}
use Rattle.exec_run.specs.Run.{after, stepped, is_home, start, RunsTo}

-- the hart asks for a write to descriptor 1
pub record IsWrite (s : State) : Type 0 where
  pub call : reg s.hart 17 ≡ 64
  pub descriptor : reg s.hart 10 ≡ 1

-- the cause isn't a byte that isn't mapped
abbrev pub NotUnmapped : Cause → Type 0
NotUnmapped Fetch = ⊥
NotUnmapped (Load at) = ⊥
NotUnmapped (Store at) = ⊥
NotUnmapped (Illegal word) = Unit {0}
NotUnmapped (Misaligned at) = Unit {0}
NotUnmapped Break = Unit {0}

-- the turn fetched, loaded and stored mapped bytes alone, and reads such bytes alone for a write
abbrev pub IsWithin : State → Step → Type 0
IsWithin s Next = Unit {0}
IsWithin s Ecall = IsWrite s → IsSome (bytes_from s.map (reg s.hart 11) (reg s.hart 12))
IsWithin s (Trap pc cause) = NotUnmapped cause

-- where a turn goes on
abbrev pub Goes : (State → Type 0) → Turn → Type 0
Goes Rest (goes next) = Rest next
Goes Rest (ends e) = Unit {0}

-- no turn of the run from the state on touches a byte that isn't mapped
unfoldable pub StaysFrom : ℕ → State → Type 0
StaysFrom zero s = Unit {0}
StaysFrom (suc fuel) s =
    MatchBool (is_home s)
    (Unit {0})
    ((d : Stepped) → IsStep s.hart s.map d → IsWithin (stepped s d) d.answer × Goes (λ next. StaysFrom fuel next) (after (stepped s d) d.answer))

-- no turn of the run touches a byte that isn't mapped
abbrev pub Stays : Map → ℕ → List ℕ → ℕ → Type 0
Stays memory pc args fuel = StaysFrom fuel (start memory pc args)

-- the larger memory agrees with the memory on all that is mapped there
pub record Agrees (memory larger : Map) : Type 0 where
  pub same : (at byte : ℕ) → memory at ≡ Some byte → larger at ≡ Some byte

-- a run that stays within a memory has the same end and output on any larger one
abbrev pub LargerMemory : Type 0
LargerMemory =
    (memory larger : Map) (pc : ℕ) (args : List ℕ) (fuel : ℕ) (end : RunEnd) (output : List ℕ)
    → Agrees memory larger → Stays memory pc args fuel → (RunsTo memory pc args fuel end output ↔ RunsTo larger pc args fuel end output)
