-- The parts that the formats share (RISC-V unprivileged manual, "Base Instruction Formats").
use Rattle.std.specs.Prelude.{◌≡◌, ℕ}
use Rattle.orc_words.specs.Bits.{bits_at}

-- opcode, rd, bits 14..12, rs1, rs2, bits 31..25
pub record HasParts (word opcode rd f3 rs1 rs2 f7 : ℕ) : Type 0 where
  pub opcode_is : bits_at 0 7 word ≡ opcode
  pub rd_is : bits_at 7 5 word ≡ rd
  pub f3_is : bits_at 12 3 word ≡ f3
  pub rs1_is : bits_at 15 5 word ≡ rs1
  pub rs2_is : bits_at 20 5 word ≡ rs2
  pub f7_is : bits_at 25 7 word ≡ f7
