-- The registers of a hart (RISC-V unprivileged manual, "Programmers' Model for Base Integer ISA").
use Rattle.std.specs.Prelude.{ℕ, zero, suc, slice_index, slice_set}
use Rattle.rv_hart.specs.declared.hart.Hart.{Hart}

-- what a register holds; x0 is always 0
unfoldable pub reg : Hart → ℕ → ℕ
reg hart zero = 0
reg hart (suc r) = slice_index hart.x (suc r)

-- the hart with a register changed; x0 is never written
unfoldable pub with_reg : Hart → ℕ → ℕ → Hart
with_reg hart zero value = hart
with_reg hart (suc r) value = record hart { x = slice_set hart.x (suc r) value }
