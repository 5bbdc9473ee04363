-- The instructions that a word can hold: which registers, immediates and amounts there are.
use Rattle.std.specs.Prelude.{◌≡◌, ◌<◌, ◌^◌, ℕ, ℤ, pos, negsuc, true, Bool, false, nat_lt}
use Rattle.orc_words.specs.Bits.{bits_at, fits_bits, low_of}
use Rattle.rv_insn.specs.declared.insn.Insn.{Insn}
use Rattle.rv_insn.specs.declared.insn.Insn.TheVariants.{Add, Sub, Sll, Slt, Sltu, Xor, Srl, Sra, Or, And, Mul, Mulh, Mulhsu, Mulhu, Div, Divu, Rem, Remu, Addw, Subw, Sllw, Srlw, Sraw, Mulw, Divw, Divuw, Remw, Remuw, Addi, Slti, Sltiu, Xori, Ori, Andi, Slli, Srli, Srai, Addiw, Slliw, Srliw, Sraiw, Lb, Lh, Lw, Ld, Lbu, Lhu, Lwu, Sb, Sh, Sw, Sd, Beq, Bne, Blt, Bge, Bltu, Bgeu, Lui, Auipc, Jal, Jalr, Fence, Ecall, Ebreak}

-- registers are x0 to x31
pub record RangeR (rd rs1 rs2 : ℕ) : Type 0 where
  pub rd_in : rd < 32
  pub rs1_in : rs1 < 32
  pub rs2_in : rs2 < 32

-- twelve bits hold the immediate
pub record RangeI (rd rs1 : ℕ) (imm : ℤ) : Type 0 where
  pub rd_in : rd < 32
  pub rs1_in : rs1 < 32
  pub imm_in : fits_bits 12 imm ≡ true

pub record RangeS (rs1 rs2 : ℕ) (imm : ℤ) : Type 0 where
  pub rs1_in : rs1 < 32
  pub rs2_in : rs2 < 32
  pub imm_in : fits_bits 12 imm ≡ true

-- thirteen bits hold the immediate, which is even
pub record RangeB (rs1 rs2 : ℕ) (imm : ℤ) : Type 0 where
  pub rs1_in : rs1 < 32
  pub rs2_in : rs2 < 32
  pub imm_in : fits_bits 13 imm ≡ true
  pub imm_even : low_of 1 imm ≡ 0

-- 32 bits hold the immediate, whose twelve low bits are zero
pub record RangeU (rd : ℕ) (imm : ℤ) : Type 0 where
  pub rd_in : rd < 32
  pub imm_in : fits_bits 32 imm ≡ true
  pub imm_upper : low_of 12 imm ≡ 0

-- 21 bits hold the immediate, which is even
pub record RangeJ (rd : ℕ) (imm : ℤ) : Type 0 where
  pub rd_in : rd < 32
  pub imm_in : fits_bits 21 imm ≡ true
  pub imm_even : low_of 1 imm ≡ 0

-- an integer is a number of so many bits
abbrev pub is_number : ℕ → ℤ → Bool
is_number bits (pos n) = nat_lt n (2 ^ bits)
is_number bits (negsuc n) = false

-- the amount of a shift has so many bits
pub record RangeShift (rd rs1 : ℕ) (amount : ℤ) (bits : ℕ) : Type 0 where
  pub rd_in : rd < 32
  pub rs1_in : rs1 < 32
  pub amount_in : is_number bits amount ≡ true

-- the word is a fence
pub record RangeFence (whole opcode f3 : ℕ) : Type 0 where
  pub opcode_in : bits_at 0 7 whole ≡ opcode
  pub f3_in : bits_at 12 3 whole ≡ f3

-- a word can hold the instruction
abbrev pub InRange : Insn → Type 0
InRange (Add rd rs1 rs2) = RangeR rd rs1 rs2
InRange (Sub rd rs1 rs2) = RangeR rd rs1 rs2
InRange (Sll rd rs1 rs2) = RangeR rd rs1 rs2
InRange (Slt rd rs1 rs2) = RangeR rd rs1 rs2
InRange (Sltu rd rs1 rs2) = RangeR rd rs1 rs2
InRange (Xor rd rs1 rs2) = RangeR rd rs1 rs2
InRange (Srl rd rs1 rs2) = RangeR rd rs1 rs2
InRange (Sra rd rs1 rs2) = RangeR rd rs1 rs2
InRange (Or rd rs1 rs2) = RangeR rd rs1 rs2
InRange (And rd rs1 rs2) = RangeR rd rs1 rs2
InRange (Mul rd rs1 rs2) = RangeR rd rs1 rs2
InRange (Mulh rd rs1 rs2) = RangeR rd rs1 rs2
InRange (Mulhsu rd rs1 rs2) = RangeR rd rs1 rs2
InRange (Mulhu rd rs1 rs2) = RangeR rd rs1 rs2
InRange (Div rd rs1 rs2) = RangeR rd rs1 rs2
InRange (Divu rd rs1 rs2) = RangeR rd rs1 rs2
InRange (Rem rd rs1 rs2) = RangeR rd rs1 rs2
InRange (Remu rd rs1 rs2) = RangeR rd rs1 rs2
InRange (Addw rd rs1 rs2) = RangeR rd rs1 rs2
InRange (Subw rd rs1 rs2) = RangeR rd rs1 rs2
InRange (Sllw rd rs1 rs2) = RangeR rd rs1 rs2
InRange (Srlw rd rs1 rs2) = RangeR rd rs1 rs2
InRange (Sraw rd rs1 rs2) = RangeR rd rs1 rs2
InRange (Mulw rd rs1 rs2) = RangeR rd rs1 rs2
InRange (Divw rd rs1 rs2) = RangeR rd rs1 rs2
InRange (Divuw rd rs1 rs2) = RangeR rd rs1 rs2
InRange (Remw rd rs1 rs2) = RangeR rd rs1 rs2
InRange (Remuw rd rs1 rs2) = RangeR rd rs1 rs2
InRange (Addi rd rs1 imm) = RangeI rd rs1 imm
InRange (Slti rd rs1 imm) = RangeI rd rs1 imm
InRange (Sltiu rd rs1 imm) = RangeI rd rs1 imm
InRange (Xori rd rs1 imm) = RangeI rd rs1 imm
InRange (Ori rd rs1 imm) = RangeI rd rs1 imm
InRange (Andi rd rs1 imm) = RangeI rd rs1 imm
InRange (Addiw rd rs1 imm) = RangeI rd rs1 imm
InRange (Lb rd rs1 imm) = RangeI rd rs1 imm
InRange (Lh rd rs1 imm) = RangeI rd rs1 imm
InRange (Lw rd rs1 imm) = RangeI rd rs1 imm
InRange (Ld rd rs1 imm) = RangeI rd rs1 imm
InRange (Lbu rd rs1 imm) = RangeI rd rs1 imm
InRange (Lhu rd rs1 imm) = RangeI rd rs1 imm
InRange (Lwu rd rs1 imm) = RangeI rd rs1 imm
InRange (Jalr rd rs1 imm) = RangeI rd rs1 imm
InRange (Slli rd rs1 amount) = RangeShift rd rs1 amount 6
InRange (Srli rd rs1 amount) = RangeShift rd rs1 amount 6
InRange (Srai rd rs1 amount) = RangeShift rd rs1 amount 6
InRange (Slliw rd rs1 amount) = RangeShift rd rs1 amount 5
InRange (Srliw rd rs1 amount) = RangeShift rd rs1 amount 5
InRange (Sraiw rd rs1 amount) = RangeShift rd rs1 amount 5
InRange (Sb rs1 rs2 imm) = RangeS rs1 rs2 imm
InRange (Sh rs1 rs2 imm) = RangeS rs1 rs2 imm
InRange (Sw rs1 rs2 imm) = RangeS rs1 rs2 imm
InRange (Sd rs1 rs2 imm) = RangeS rs1 rs2 imm
InRange (Beq rs1 rs2 imm) = RangeB rs1 rs2 imm
InRange (Bne rs1 rs2 imm) = RangeB rs1 rs2 imm
InRange (Blt rs1 rs2 imm) = RangeB rs1 rs2 imm
InRange (Bge rs1 rs2 imm) = RangeB rs1 rs2 imm
InRange (Bltu rs1 rs2 imm) = RangeB rs1 rs2 imm
InRange (Bgeu rs1 rs2 imm) = RangeB rs1 rs2 imm
InRange (Lui rd imm) = RangeU rd imm
InRange (Auipc rd imm) = RangeU rd imm
InRange (Jal rd imm) = RangeJ rd imm
InRange (Fence whole) = RangeFence whole 0x0F 0
InRange Ecall = Unit {0}
InRange Ebreak = Unit {0}
