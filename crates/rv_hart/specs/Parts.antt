-- A hart in two parts.
use Rattle.std.specs.Prelude.{ℕ, List}
use Rattle.rv_hart.specs.declared.hart.Hart.{Hart}

-- the hart with this program counter and these registers
abbrev pub hart_of : ℕ → List ℕ → Hart
hart_of pc x = record { pc = pc; x = x }
