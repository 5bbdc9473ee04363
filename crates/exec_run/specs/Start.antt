-- What a run starts from (RISC-V ELF psABI, "Integer Register Convention"; the stack is the host's choice).
use Rattle.std.specs.Prelude.{ℕ, Some, ◌-◌, List, ◌∷◌, ◌++◌, length, replicate, nat_le, nat_lt, ◌&&◌, if◌then◌else◌}
use Rattle.rv_hart.specs.declared.hart.Hart.{Hart}
use Rattle.rv_hart.specs.Map.{Map}
use Rattle.exec_run.specs.declared.host.TheConstants.{HOME, STACK_START, STACK_END}

-- the memory with a stack of zero bytes
abbrev pub with_stack : Map → Map
with_stack map = λ at. if nat_le STACK_START at && nat_lt at STACK_END then Some 0 else map at

-- x1 is the return address, x2 the stack pointer, and the arguments are in x10 and up to seven after it
abbrev pub started : ℕ → List ℕ → Hart
started pc args = record { pc = pc; x = 0 ∷ HOME ∷ STACK_END ∷ replicate 7 0 ++ args ++ replicate (22 - length args) 0 }
