-- Calls to the host (Linux system calls for RISC-V: a7 has the number, a0 to a2 the arguments, a0 the result).
use Rattle.std.specs.Prelude.{ℕ, Option, Some, None, ◌+◌, List, ◌++◌, length, nat_lt, ◌==◌, if◌then◌else◌}
use Rattle.rv_hart.specs.declared.hart.Hart.{Hart}
use Rattle.rv_hart.specs.Arithmetic.{sum, difference}
use Rattle.rv_hart.specs.Map.{Map}
use Rattle.rv_hart.specs.Registers.{reg, with_reg}
use Rattle.exec_run.specs.declared.host.TheConstants.{OUTPUT_MAX}
use Rattle.exec_run.specs.declared.ran.RunEnd.{RunEnd}
use Rattle.exec_run.specs.declared.ran.RunEnd.TheVariants.{Exited, OutputFull}
use Rattle.exec_run.specs.Bytes.{bytes_from}

-- a run between two turns: the hart, the memory and what was written so far
pub record State : Type 0 where
  pub hart : Hart
  pub map : Map
  pub output : List ℕ

-- how a turn leaves a run
pub data Turn : Type 0 where
  goes : State → Turn
  ends : RunEnd → Turn

-- the result of a call in a0, and on to the next instruction
abbrev pub answered : State → ℕ → State
answered s value = record s { hart = record (with_reg s.hart 10 value) { pc = sum s.hart.pc 4 } }

-- a write: of bytes that aren't all mapped (EFAULT), past what the output holds, or of these bytes
abbrev pub wrote : State → Option (List ℕ) → Turn
wrote s None = goes (answered s (difference 0 14))
wrote s (Some bytes) =
    if nat_lt OUTPUT_MAX (length s.output + length bytes)
    then ends OutputFull
    else goes (record (answered s (length bytes)) { output = s.output ++ bytes })

-- write(a0, a1, a2), where a descriptor other than 1 is refused first (EBADF)
abbrev pub write_call : State → Turn
write_call s =
    if reg s.hart 10 == 1
    then wrote s (bytes_from s.map (reg s.hart 11) (reg s.hart 12))
    else goes (answered s (difference 0 9))

-- exit is call 93, write is call 64, and there is no other (ENOSYS)
abbrev pub called : State → Turn
called s =
    if reg s.hart 17 == 93
    then ends (Exited (reg s.hart 10))
    else if reg s.hart 17 == 64 then write_call s else goes (answered s (difference 0 38))
