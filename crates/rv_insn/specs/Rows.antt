-- The rows of RV64IM: which words are which instruction (RISC-V unprivileged manual, "RV32/64G
-- Instruction Set Listings").
use Rattle.std.specs.Prelude.{◌≡◌, ℕ, ℤ, pos}
use Rattle.orc_words.specs.Bits.{bits_at}
use Rattle.orc_words.specs.Immediates.{i_immediate, s_immediate, b_immediate, u_immediate, j_immediate}
use Rattle.rv_insn.specs.declared.insn.Insn.{Insn}
use Rattle.rv_insn.specs.declared.insn.Insn.TheVariants.{Add, Sub, Sll, Slt, Sltu, Xor, Srl, Sra, Or, And, Mul, Mulh, Mulhsu, Mulhu, Div, Divu, Rem, Remu, Addw, Subw, Sllw, Srlw, Sraw, Mulw, Divw, Divuw, Remw, Remuw, Addi, Slti, Sltiu, Xori, Ori, Andi, Slli, Srli, Srai, Addiw, Slliw, Srliw, Sraiw, Lb, Lh, Lw, Ld, Lbu, Lhu, Lwu, Sb, Sh, Sw, Sd, Beq, Bne, Blt, Bge, Bltu, Bgeu, Lui, Auipc, Jal, Jalr, Fence, Ecall, Ebreak}

-- format R: two registers to one
pub record IsR (word opcode f3 f7 rd rs1 rs2 : ℕ) : Type 0 where
  pub opcode_is : bits_at 0 7 word ≡ opcode
  pub f3_is : bits_at 12 3 word ≡ f3
  pub f7_is : bits_at 25 7 word ≡ f7
  pub rd_is : rd ≡ bits_at 7 5 word
  pub rs1_is : rs1 ≡ bits_at 15 5 word
  pub rs2_is : rs2 ≡ bits_at 20 5 word

-- format I: a register and an immediate to a register
pub record IsI (word opcode f3 rd rs1 : ℕ) (imm : ℤ) : Type 0 where
  pub opcode_is : bits_at 0 7 word ≡ opcode
  pub f3_is : bits_at 12 3 word ≡ f3
  pub rd_is : rd ≡ bits_at 7 5 word
  pub rs1_is : rs1 ≡ bits_at 15 5 word
  pub imm_is : imm ≡ i_immediate word

-- a shift by an amount below 64, under the six bits that name it
pub record IsShift (word opcode f3 f6 rd rs1 : ℕ) (amount : ℤ) : Type 0 where
  pub opcode_is : bits_at 0 7 word ≡ opcode
  pub f3_is : bits_at 12 3 word ≡ f3
  pub f6_is : bits_at 26 6 word ≡ f6
  pub rd_is : rd ≡ bits_at 7 5 word
  pub rs1_is : rs1 ≡ bits_at 15 5 word
  pub amount_is : amount ≡ pos (bits_at 20 6 word)

-- a shift by an amount below 32, under the seven bits that name it
pub record IsShiftWord (word opcode f3 f7 rd rs1 : ℕ) (amount : ℤ) : Type 0 where
  pub opcode_is : bits_at 0 7 word ≡ opcode
  pub f3_is : bits_at 12 3 word ≡ f3
  pub f7_is : bits_at 25 7 word ≡ f7
  pub rd_is : rd ≡ bits_at 7 5 word
  pub rs1_is : rs1 ≡ bits_at 15 5 word
  pub amount_is : amount ≡ pos (bits_at 20 5 word)

-- format S: a register stored at another and an immediate
pub record IsS (word opcode f3 rs1 rs2 : ℕ) (imm : ℤ) : Type 0 where
  pub opcode_is : bits_at 0 7 word ≡ opcode
  pub f3_is : bits_at 12 3 word ≡ f3
  pub rs1_is : rs1 ≡ bits_at 15 5 word
  pub rs2_is : rs2 ≡ bits_at 20 5 word
  pub imm_is : imm ≡ s_immediate word

-- format B: two registers compared, and how far to go
pub record IsB (word opcode f3 rs1 rs2 : ℕ) (imm : ℤ) : Type 0 where
  pub opcode_is : bits_at 0 7 word ≡ opcode
  pub f3_is : bits_at 12 3 word ≡ f3
  pub rs1_is : rs1 ≡ bits_at 15 5 word
  pub rs2_is : rs2 ≡ bits_at 20 5 word
  pub imm_is : imm ≡ b_immediate word

-- format U: an upper part to a register
pub record IsU (word opcode rd : ℕ) (imm : ℤ) : Type 0 where
  pub opcode_is : bits_at 0 7 word ≡ opcode
  pub rd_is : rd ≡ bits_at 7 5 word
  pub imm_is : imm ≡ u_immediate word

-- format J: a jump that leaves the address after it in a register
pub record IsJ (word opcode rd : ℕ) (imm : ℤ) : Type 0 where
  pub opcode_is : bits_at 0 7 word ≡ opcode
  pub rd_is : rd ≡ bits_at 7 5 word
  pub imm_is : imm ≡ j_immediate word

-- a fence, with any of its other bits
pub record IsFence (word opcode f3 whole : ℕ) : Type 0 where
  pub opcode_is : bits_at 0 7 word ≡ opcode
  pub f3_is : bits_at 12 3 word ≡ f3
  pub whole_is : whole ≡ word

-- one word alone
pub record IsWhole (word opcode whole : ℕ) : Type 0 where
  pub opcode_is : bits_at 0 7 word ≡ opcode
  pub whole_is : word ≡ whole

-- the word is the instruction's
abbrev pub Fits : Insn → ℕ → Type 0
Fits (Add rd rs1 rs2) word = IsR word 0x33 0 0x00 rd rs1 rs2
Fits (Sub rd rs1 rs2) word = IsR word 0x33 0 0x20 rd rs1 rs2
Fits (Sll rd rs1 rs2) word = IsR word 0x33 1 0x00 rd rs1 rs2
Fits (Slt rd rs1 rs2) word = IsR word 0x33 2 0x00 rd rs1 rs2
Fits (Sltu rd rs1 rs2) word = IsR word 0x33 3 0x00 rd rs1 rs2
Fits (Xor rd rs1 rs2) word = IsR word 0x33 4 0x00 rd rs1 rs2
Fits (Srl rd rs1 rs2) word = IsR word 0x33 5 0x00 rd rs1 rs2
Fits (Sra rd rs1 rs2) word = IsR word 0x33 5 0x20 rd rs1 rs2
Fits (Or rd rs1 rs2) word = IsR word 0x33 6 0x00 rd rs1 rs2
Fits (And rd rs1 rs2) word = IsR word 0x33 7 0x00 rd rs1 rs2
Fits (Mul rd rs1 rs2) word = IsR word 0x33 0 0x01 rd rs1 rs2
Fits (Mulh rd rs1 rs2) word = IsR word 0x33 1 0x01 rd rs1 rs2
Fits (Mulhsu rd rs1 rs2) word = IsR word 0x33 2 0x01 rd rs1 rs2
Fits (Mulhu rd rs1 rs2) word = IsR word 0x33 3 0x01 rd rs1 rs2
Fits (Div rd rs1 rs2) word = IsR word 0x33 4 0x01 rd rs1 rs2
Fits (Divu rd rs1 rs2) word = IsR word 0x33 5 0x01 rd rs1 rs2
Fits (Rem rd rs1 rs2) word = IsR word 0x33 6 0x01 rd rs1 rs2
Fits (Remu rd rs1 rs2) word = IsR word 0x33 7 0x01 rd rs1 rs2
Fits (Addw rd rs1 rs2) word = IsR word 0x3B 0 0x00 rd rs1 rs2
Fits (Subw rd rs1 rs2) word = IsR word 0x3B 0 0x20 rd rs1 rs2
Fits (Sllw rd rs1 rs2) word = IsR word 0x3B 1 0x00 rd rs1 rs2
Fits (Srlw rd rs1 rs2) word = IsR word 0x3B 5 0x00 rd rs1 rs2
Fits (Sraw rd rs1 rs2) word = IsR word 0x3B 5 0x20 rd rs1 rs2
Fits (Mulw rd rs1 rs2) word = IsR word 0x3B 0 0x01 rd rs1 rs2
Fits (Divw rd rs1 rs2) word = IsR word 0x3B 4 0x01 rd rs1 rs2
Fits (Divuw rd rs1 rs2) word = IsR word 0x3B 5 0x01 rd rs1 rs2
Fits (Remw rd rs1 rs2) word = IsR word 0x3B 6 0x01 rd rs1 rs2
Fits (Remuw rd rs1 rs2) word = IsR word 0x3B 7 0x01 rd rs1 rs2
Fits (Addi rd rs1 imm) word = IsI word 0x13 0 rd rs1 imm
Fits (Slti rd rs1 imm) word = IsI word 0x13 2 rd rs1 imm
Fits (Sltiu rd rs1 imm) word = IsI word 0x13 3 rd rs1 imm
Fits (Xori rd rs1 imm) word = IsI word 0x13 4 rd rs1 imm
Fits (Ori rd rs1 imm) word = IsI word 0x13 6 rd rs1 imm
Fits (Andi rd rs1 imm) word = IsI word 0x13 7 rd rs1 imm
Fits (Slli rd rs1 amount) word = IsShift word 0x13 1 0x00 rd rs1 amount
Fits (Srli rd rs1 amount) word = IsShift word 0x13 5 0x00 rd rs1 amount
Fits (Srai rd rs1 amount) word = IsShift word 0x13 5 0x10 rd rs1 amount
Fits (Addiw rd rs1 imm) word = IsI word 0x1B 0 rd rs1 imm
Fits (Slliw rd rs1 amount) word = IsShiftWord word 0x1B 1 0x00 rd rs1 amount
Fits (Srliw rd rs1 amount) word = IsShiftWord word 0x1B 5 0x00 rd rs1 amount
Fits (Sraiw rd rs1 amount) word = IsShiftWord word 0x1B 5 0x20 rd rs1 amount
Fits (Lb rd rs1 imm) word = IsI word 0x03 0 rd rs1 imm
Fits (Lh rd rs1 imm) word = IsI word 0x03 1 rd rs1 imm
Fits (Lw rd rs1 imm) word = IsI word 0x03 2 rd rs1 imm
Fits (Ld rd rs1 imm) word = IsI word 0x03 3 rd rs1 imm
Fits (Lbu rd rs1 imm) word = IsI word 0x03 4 rd rs1 imm
Fits (Lhu rd rs1 imm) word = IsI word 0x03 5 rd rs1 imm
Fits (Lwu rd rs1 imm) word = IsI word 0x03 6 rd rs1 imm
Fits (Sb rs1 rs2 imm) word = IsS word 0x23 0 rs1 rs2 imm
Fits (Sh rs1 rs2 imm) word = IsS word 0x23 1 rs1 rs2 imm
Fits (Sw rs1 rs2 imm) word = IsS word 0x23 2 rs1 rs2 imm
Fits (Sd rs1 rs2 imm) word = IsS word 0x23 3 rs1 rs2 imm
Fits (Beq rs1 rs2 imm) word = IsB word 0x63 0 rs1 rs2 imm
Fits (Bne rs1 rs2 imm) word = IsB word 0x63 1 rs1 rs2 imm
Fits (Blt rs1 rs2 imm) word = IsB word 0x63 4 rs1 rs2 imm
Fits (Bge rs1 rs2 imm) word = IsB word 0x63 5 rs1 rs2 imm
Fits (Bltu rs1 rs2 imm) word = IsB word 0x63 6 rs1 rs2 imm
Fits (Bgeu rs1 rs2 imm) word = IsB word 0x63 7 rs1 rs2 imm
Fits (Lui rd imm) word = IsU word 0x37 rd imm
Fits (Auipc rd imm) word = IsU word 0x17 rd imm
Fits (Jal rd imm) word = IsJ word 0x6F rd imm
Fits (Jalr rd rs1 imm) word = IsI word 0x67 0 rd rs1 imm
Fits (Fence whole) word = IsFence word 0x0F 0 whole
Fits Ecall word = IsWhole word 0x73 0x00000073
Fits Ebreak word = IsWhole word 0x73 0x00100073
