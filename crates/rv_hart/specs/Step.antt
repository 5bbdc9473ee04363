-- One instruction on a hart (RISC-V unprivileged manual, "RV64I Base Integer Instruction Set").
use Rattle.std.specs.Prelude.{◌≡◌, ◌≢◌, ℕ, ℤ, Bool, Option, Some, None, ◌%◌, ◌-◌, ◌==◌, not, nat_lt, int_lt, bit_and, bit_or, bit_xor, if◌then◌else◌}
use Rattle.rv_hart.specs.declared.hart.Hart.{Hart}
use Rattle.rv_hart.specs.declared.step.Cause.{Cause}
use Rattle.rv_hart.specs.declared.step.Cause.TheVariants.{Fetch, Illegal, Misaligned, Load, Store, Break}
use Rattle.rv_hart.specs.declared.step.Step.{Step}
use Rattle.rv_hart.specs.declared.step.Step.TheVariants.{Next, Ecall as IsCall, Trap}
use Rattle.rv_insn.specs.declared.insn.Insn.{Insn}
use Rattle.rv_insn.specs.declared.insn.Insn.TheVariants.{Add, Sub, Sll, Slt, Sltu, Xor, Srl, Sra, Or, And, Mul, Mulh, Mulhsu, Mulhu, Div, Divu, Rem, Remu, Addw, Subw, Sllw, Srlw, Sraw, Mulw, Divw, Divuw, Remw, Remuw, Addi, Slti, Sltiu, Xori, Ori, Andi, Slli, Srli, Srai, Addiw, Slliw, Srliw, Sraiw, Lb, Lh, Lw, Ld, Lbu, Lhu, Lwu, Sb, Sh, Sw, Sd, Beq, Bne, Blt, Bge, Bltu, Bgeu, Lui, Auipc, Jal, Jalr, Fence, Ecall, Ebreak}
use Rattle.rv_hart.specs.Arithmetic.{word_of, signed, extended, sum, difference, shifted_left, is_less_signed, is_less, shifted_right, shifted_right_signed, product, upper_product_signed, upper_product_mixed, upper_product, quotient_signed, quotient, remainder_signed, remainder, sum_32, difference_32, shifted_left_32, shifted_right_32, shifted_right_signed_32, product_32, quotient_signed_32, quotient_32, remainder_signed_32, remainder_32}
use Rattle.rv_hart.specs.Map.{Map, read, stored}
use Rattle.rv_hart.specs.Registers.{reg, with_reg}
use Rattle.rv_insn.specs.Rows.{Fits}

-- the hart and the memory after a step, and what the step answered
pub record Stepped : Type 0 where
  pub hart : Hart
  pub map : Map
  pub answer : Step

-- the hart after an instruction that writes no memory, and what the step answered
pub record Turned : Type 0 where
  pub hart : Hart
  pub answer : Step

-- the step of an instruction that writes no memory
abbrev pub over : Map → Turned → Stepped
over map turned = record { hart = turned.hart; map = map; answer = turned.answer }

-- nothing has changed, and the answer says why
abbrev pub trapped : Hart → Cause → Turned
trapped hart cause = record { hart = hart; answer = Trap hart.pc cause }

-- on to the instruction that stands next
abbrev pub passed : Hart → Turned
passed hart = record { hart = record hart { pc = sum hart.pc 4 }; answer = Next }

-- a value is written to a register
abbrev pub writes : Hart → ℕ → ℕ → Turned
writes hart rd value = passed (with_reg hart rd value)

-- a jump to a target, which leaves the address after it in a register
abbrev pub jumps : Hart → ℕ → ℕ → Turned
jumps hart rd target =
    if target % 4 == 0
    then record { hart = record (with_reg hart rd (sum hart.pc 4)) { pc = target }; answer = Next }
    else trapped hart (Misaligned target)

-- a branch by an offset, if it is taken
abbrev pub branches : Hart → Bool → ℤ → Turned
branches hart taken imm = if taken then jumps hart 0 (sum hart.pc (word_of imm)) else passed hart

-- what was read at an address is written to a register
abbrev pub loads : Hart → ℕ → ℕ → Option ℕ → Turned
loads hart rd at (Some value) = writes hart rd value
loads hart rd at None = trapped hart (Load at)

-- what was read at an address is sign-extended from so many bits
abbrev pub loads_signed : Hart → ℕ → ℕ → ℕ → Option ℕ → Turned
loads_signed hart rd at bits (Some value) = writes hart rd (extended bits value)
loads_signed hart rd at bits None = trapped hart (Load at)

-- a value is stored where what stands there can be read
abbrev pub stores : Hart → Map → ℕ → ℕ → ℕ → Option ℕ → Stepped
stores hart map at width value (Some _) = over (stored map at width value) (passed hart)
stores hart map at width value None = over map (trapped hart (Store at))

-- the address that a load, a store or `jalr` names
abbrev pub address : Hart → ℕ → ℤ → ℕ
address hart rs1 imm = sum (reg hart rs1) (word_of imm)

-- what an instruction does, row by row
abbrev pub row_of : Insn → Hart → Map → Stepped
row_of (Add rd rs1 rs2) hart map = over map (writes hart rd (sum (reg hart rs1) (reg hart rs2)))
row_of (Sub rd rs1 rs2) hart map = over map (writes hart rd (difference (reg hart rs1) (reg hart rs2)))
row_of (Sll rd rs1 rs2) hart map = over map (writes hart rd (shifted_left (reg hart rs1) (reg hart rs2)))
row_of (Slt rd rs1 rs2) hart map = over map (writes hart rd (is_less_signed (reg hart rs1) (reg hart rs2)))
row_of (Sltu rd rs1 rs2) hart map = over map (writes hart rd (is_less (reg hart rs1) (reg hart rs2)))
row_of (Xor rd rs1 rs2) hart map = over map (writes hart rd (bit_xor (reg hart rs1) (reg hart rs2)))
row_of (Srl rd rs1 rs2) hart map = over map (writes hart rd (shifted_right (reg hart rs1) (reg hart rs2)))
row_of (Sra rd rs1 rs2) hart map = over map (writes hart rd (shifted_right_signed (reg hart rs1) (reg hart rs2)))
row_of (Or rd rs1 rs2) hart map = over map (writes hart rd (bit_or (reg hart rs1) (reg hart rs2)))
row_of (And rd rs1 rs2) hart map = over map (writes hart rd (bit_and (reg hart rs1) (reg hart rs2)))
row_of (Mul rd rs1 rs2) hart map = over map (writes hart rd (product (reg hart rs1) (reg hart rs2)))
row_of (Mulh rd rs1 rs2) hart map = over map (writes hart rd (upper_product_signed (reg hart rs1) (reg hart rs2)))
row_of (Mulhsu rd rs1 rs2) hart map = over map (writes hart rd (upper_product_mixed (reg hart rs1) (reg hart rs2)))
row_of (Mulhu rd rs1 rs2) hart map = over map (writes hart rd (upper_product (reg hart rs1) (reg hart rs2)))
row_of (Div rd rs1 rs2) hart map = over map (writes hart rd (quotient_signed (reg hart rs1) (reg hart rs2)))
row_of (Divu rd rs1 rs2) hart map = over map (writes hart rd (quotient (reg hart rs1) (reg hart rs2)))
row_of (Rem rd rs1 rs2) hart map = over map (writes hart rd (remainder_signed (reg hart rs1) (reg hart rs2)))
row_of (Remu rd rs1 rs2) hart map = over map (writes hart rd (remainder (reg hart rs1) (reg hart rs2)))
row_of (Addw rd rs1 rs2) hart map = over map (writes hart rd (sum_32 (reg hart rs1) (reg hart rs2)))
row_of (Subw rd rs1 rs2) hart map = over map (writes hart rd (difference_32 (reg hart rs1) (reg hart rs2)))
row_of (Sllw rd rs1 rs2) hart map = over map (writes hart rd (shifted_left_32 (reg hart rs1) (reg hart rs2)))
row_of (Srlw rd rs1 rs2) hart map = over map (writes hart rd (shifted_right_32 (reg hart rs1) (reg hart rs2)))
row_of (Sraw rd rs1 rs2) hart map = over map (writes hart rd (shifted_right_signed_32 (reg hart rs1) (reg hart rs2)))
row_of (Mulw rd rs1 rs2) hart map = over map (writes hart rd (product_32 (reg hart rs1) (reg hart rs2)))
row_of (Divw rd rs1 rs2) hart map = over map (writes hart rd (quotient_signed_32 (reg hart rs1) (reg hart rs2)))
row_of (Divuw rd rs1 rs2) hart map = over map (writes hart rd (quotient_32 (reg hart rs1) (reg hart rs2)))
row_of (Remw rd rs1 rs2) hart map = over map (writes hart rd (remainder_signed_32 (reg hart rs1) (reg hart rs2)))
row_of (Remuw rd rs1 rs2) hart map = over map (writes hart rd (remainder_32 (reg hart rs1) (reg hart rs2)))
row_of (Addi rd rs1 imm) hart map = over map (writes hart rd (sum (reg hart rs1) (word_of imm)))
row_of (Slti rd rs1 imm) hart map = over map (writes hart rd (is_less_signed (reg hart rs1) (word_of imm)))
row_of (Sltiu rd rs1 imm) hart map = over map (writes hart rd (is_less (reg hart rs1) (word_of imm)))
row_of (Xori rd rs1 imm) hart map = over map (writes hart rd (bit_xor (reg hart rs1) (word_of imm)))
row_of (Ori rd rs1 imm) hart map = over map (writes hart rd (bit_or (reg hart rs1) (word_of imm)))
row_of (Andi rd rs1 imm) hart map = over map (writes hart rd (bit_and (reg hart rs1) (word_of imm)))
row_of (Slli rd rs1 amount) hart map = over map (writes hart rd (shifted_left (reg hart rs1) (word_of amount)))
row_of (Srli rd rs1 amount) hart map = over map (writes hart rd (shifted_right (reg hart rs1) (word_of amount)))
row_of (Srai rd rs1 amount) hart map = over map (writes hart rd (shifted_right_signed (reg hart rs1) (word_of amount)))
row_of (Addiw rd rs1 imm) hart map = over map (writes hart rd (sum_32 (reg hart rs1) (word_of imm)))
row_of (Slliw rd rs1 amount) hart map = over map (writes hart rd (shifted_left_32 (reg hart rs1) (word_of amount)))
row_of (Srliw rd rs1 amount) hart map = over map (writes hart rd (shifted_right_32 (reg hart rs1) (word_of amount)))
row_of (Sraiw rd rs1 amount) hart map = over map (writes hart rd (shifted_right_signed_32 (reg hart rs1) (word_of amount)))
row_of (Lb rd rs1 imm) hart map =
    over map (loads_signed hart rd (address hart rs1 imm) 8 (read map (address hart rs1 imm) 1))
row_of (Lh rd rs1 imm) hart map =
    over map (loads_signed hart rd (address hart rs1 imm) 16 (read map (address hart rs1 imm) 2))
row_of (Lw rd rs1 imm) hart map =
    over map (loads_signed hart rd (address hart rs1 imm) 32 (read map (address hart rs1 imm) 4))
row_of (Ld rd rs1 imm) hart map =
    over map (loads hart rd (address hart rs1 imm) (read map (address hart rs1 imm) 8))
row_of (Lbu rd rs1 imm) hart map =
    over map (loads hart rd (address hart rs1 imm) (read map (address hart rs1 imm) 1))
row_of (Lhu rd rs1 imm) hart map =
    over map (loads hart rd (address hart rs1 imm) (read map (address hart rs1 imm) 2))
row_of (Lwu rd rs1 imm) hart map =
    over map (loads hart rd (address hart rs1 imm) (read map (address hart rs1 imm) 4))
row_of (Sb rs1 rs2 imm) hart map =
    stores hart map (address hart rs1 imm) 1 (reg hart rs2) (read map (address hart rs1 imm) 1)
row_of (Sh rs1 rs2 imm) hart map =
    stores hart map (address hart rs1 imm) 2 (reg hart rs2) (read map (address hart rs1 imm) 2)
row_of (Sw rs1 rs2 imm) hart map =
    stores hart map (address hart rs1 imm) 4 (reg hart rs2) (read map (address hart rs1 imm) 4)
row_of (Sd rs1 rs2 imm) hart map =
    stores hart map (address hart rs1 imm) 8 (reg hart rs2) (read map (address hart rs1 imm) 8)
row_of (Beq rs1 rs2 imm) hart map =
    over map (branches hart (reg hart rs1 == reg hart rs2) imm)
row_of (Bne rs1 rs2 imm) hart map =
    over map (branches hart (not (reg hart rs1 == reg hart rs2)) imm)
row_of (Blt rs1 rs2 imm) hart map =
    over map (branches hart (int_lt (signed (reg hart rs1)) (signed (reg hart rs2))) imm)
row_of (Bge rs1 rs2 imm) hart map =
    over map (branches hart (not (int_lt (signed (reg hart rs1)) (signed (reg hart rs2)))) imm)
row_of (Bltu rs1 rs2 imm) hart map =
    over map (branches hart (nat_lt (reg hart rs1) (reg hart rs2)) imm)
row_of (Bgeu rs1 rs2 imm) hart map =
    over map (branches hart (not (nat_lt (reg hart rs1) (reg hart rs2))) imm)
row_of (Lui rd imm) hart map = over map (writes hart rd (word_of imm))
row_of (Auipc rd imm) hart map = over map (writes hart rd (sum hart.pc (word_of imm)))
row_of (Jal rd imm) hart map = over map (jumps hart rd (sum hart.pc (word_of imm)))
row_of (Jalr rd rs1 imm) hart map =
    over map (jumps hart rd (address hart rs1 imm - address hart rs1 imm % 2))
row_of (Fence word) hart map = over map (passed hart)
row_of Ecall hart map = over map (record { hart = hart; answer = IsCall })
row_of Ebreak hart map = over map (trapped hart Break)

-- a step: the alignment of pc, the fetch, and the row that fits the word, if there is one
pub data IsStep (hart : Hart) (map : Map) (after : Stepped) : Type 0 where
  misaligned : hart.pc % 4 ≢ 0 → after ≡ over map (trapped hart (Misaligned hart.pc)) → IsStep hart map after
  unmapped : hart.pc % 4 ≡ 0 → read map hart.pc 4 ≡ None → after ≡ over map (trapped hart Fetch) → IsStep hart map after
  fits : hart.pc % 4 ≡ 0 → (word : ℕ) → read map hart.pc 4 ≡ Some word → (insn : Insn) → Fits insn word → after ≡ row_of insn hart map → IsStep hart map after
  illegal : hart.pc % 4 ≡ 0 → (word : ℕ) → read map hart.pc 4 ≡ Some word → ((insn : Insn) → Fits insn word → ⊥) → after ≡ over map (trapped hart (Illegal word)) → IsStep hart map after
