-- An instruction with its parts side by side.
use Rattle.std.specs.Prelude.{◌<◌, ℕ, ℤ}
use Rattle.orc_words.specs.Bits.{low_of}
use Rattle.rv_insn.specs.declared.flat.FlatInsn.{FlatInsn}
use Rattle.rv_insn.specs.declared.flat.Kind.{Kind}
use Rattle.rv_insn.specs.declared.flat.Kind.TheVariants as kind
use Rattle.rv_insn.specs.declared.insn.Insn.{Insn}
use Rattle.rv_insn.specs.declared.insn.Insn.TheVariants.{Add, Sub, Sll, Slt, Sltu, Xor, Srl, Sra, Or, And, Mul, Mulh, Mulhsu, Mulhu, Div, Divu, Rem, Remu, Addw, Subw, Sllw, Srlw, Sraw, Mulw, Divw, Divuw, Remw, Remuw, Addi, Slti, Sltiu, Xori, Ori, Andi, Slli, Srli, Srai, Addiw, Slliw, Srliw, Sraiw, Lb, Lh, Lw, Ld, Lbu, Lhu, Lwu, Sb, Sh, Sw, Sd, Beq, Bne, Blt, Bge, Bltu, Bgeu, Lui, Auipc, Jal, Jalr, Fence, Ecall, Ebreak}

-- the instruction of a kind with these parts, of which it takes those that it has
abbrev pub named : Kind → ℕ → ℕ → ℕ → ℤ → Insn
named kind.Add rd rs1 rs2 imm = Add rd rs1 rs2
named kind.Sub rd rs1 rs2 imm = Sub rd rs1 rs2
named kind.Sll rd rs1 rs2 imm = Sll rd rs1 rs2
named kind.Slt rd rs1 rs2 imm = Slt rd rs1 rs2
named kind.Sltu rd rs1 rs2 imm = Sltu rd rs1 rs2
named kind.Xor rd rs1 rs2 imm = Xor rd rs1 rs2
named kind.Srl rd rs1 rs2 imm = Srl rd rs1 rs2
named kind.Sra rd rs1 rs2 imm = Sra rd rs1 rs2
named kind.Or rd rs1 rs2 imm = Or rd rs1 rs2
named kind.And rd rs1 rs2 imm = And rd rs1 rs2
named kind.Mul rd rs1 rs2 imm = Mul rd rs1 rs2
named kind.Mulh rd rs1 rs2 imm = Mulh rd rs1 rs2
named kind.Mulhsu rd rs1 rs2 imm = Mulhsu rd rs1 rs2
named kind.Mulhu rd rs1 rs2 imm = Mulhu rd rs1 rs2
named kind.Div rd rs1 rs2 imm = Div rd rs1 rs2
named kind.Divu rd rs1 rs2 imm = Divu rd rs1 rs2
named kind.Rem rd rs1 rs2 imm = Rem rd rs1 rs2
named kind.Remu rd rs1 rs2 imm = Remu rd rs1 rs2
named kind.Addw rd rs1 rs2 imm = Addw rd rs1 rs2
named kind.Subw rd rs1 rs2 imm = Subw rd rs1 rs2
named kind.Sllw rd rs1 rs2 imm = Sllw rd rs1 rs2
named kind.Srlw rd rs1 rs2 imm = Srlw rd rs1 rs2
named kind.Sraw rd rs1 rs2 imm = Sraw rd rs1 rs2
named kind.Mulw rd rs1 rs2 imm = Mulw rd rs1 rs2
named kind.Divw rd rs1 rs2 imm = Divw rd rs1 rs2
named kind.Divuw rd rs1 rs2 imm = Divuw rd rs1 rs2
named kind.Remw rd rs1 rs2 imm = Remw rd rs1 rs2
named kind.Remuw rd rs1 rs2 imm = Remuw rd rs1 rs2
named kind.Addi rd rs1 rs2 imm = Addi rd rs1 imm
named kind.Slti rd rs1 rs2 imm = Slti rd rs1 imm
named kind.Sltiu rd rs1 rs2 imm = Sltiu rd rs1 imm
named kind.Xori rd rs1 rs2 imm = Xori rd rs1 imm
named kind.Ori rd rs1 rs2 imm = Ori rd rs1 imm
named kind.Andi rd rs1 rs2 imm = Andi rd rs1 imm
named kind.Slli rd rs1 rs2 imm = Slli rd rs1 imm
named kind.Srli rd rs1 rs2 imm = Srli rd rs1 imm
named kind.Srai rd rs1 rs2 imm = Srai rd rs1 imm
named kind.Addiw rd rs1 rs2 imm = Addiw rd rs1 imm
named kind.Slliw rd rs1 rs2 imm = Slliw rd rs1 imm
named kind.Srliw rd rs1 rs2 imm = Srliw rd rs1 imm
named kind.Sraiw rd rs1 rs2 imm = Sraiw rd rs1 imm
named kind.Lb rd rs1 rs2 imm = Lb rd rs1 imm
named kind.Lh rd rs1 rs2 imm = Lh rd rs1 imm
named kind.Lw rd rs1 rs2 imm = Lw rd rs1 imm
named kind.Ld rd rs1 rs2 imm = Ld rd rs1 imm
named kind.Lbu rd rs1 rs2 imm = Lbu rd rs1 imm
named kind.Lhu rd rs1 rs2 imm = Lhu rd rs1 imm
named kind.Lwu rd rs1 rs2 imm = Lwu rd rs1 imm
named kind.Sb rd rs1 rs2 imm = Sb rs1 rs2 imm
named kind.Sh rd rs1 rs2 imm = Sh rs1 rs2 imm
named kind.Sw rd rs1 rs2 imm = Sw rs1 rs2 imm
named kind.Sd rd rs1 rs2 imm = Sd rs1 rs2 imm
named kind.Beq rd rs1 rs2 imm = Beq rs1 rs2 imm
named kind.Bne rd rs1 rs2 imm = Bne rs1 rs2 imm
named kind.Blt rd rs1 rs2 imm = Blt rs1 rs2 imm
named kind.Bge rd rs1 rs2 imm = Bge rs1 rs2 imm
named kind.Bltu rd rs1 rs2 imm = Bltu rs1 rs2 imm
named kind.Bgeu rd rs1 rs2 imm = Bgeu rs1 rs2 imm
named kind.Lui rd rs1 rs2 imm = Lui rd imm
named kind.Auipc rd rs1 rs2 imm = Auipc rd imm
named kind.Jal rd rs1 rs2 imm = Jal rd imm
named kind.Jalr rd rs1 rs2 imm = Jalr rd rs1 imm
named kind.Fence rd rs1 rs2 imm = Fence (low_of 32 imm)
named kind.Ecall rd rs1 rs2 imm = Ecall
named kind.Ebreak rd rs1 rs2 imm = Ebreak

-- the instruction that its parts make
abbrev pub insn_of : FlatInsn → Insn
insn_of f = named f.kind f.rd f.rs1 f.rs2 f.imm

-- all three registers are x0 to x31
pub record HasRegisters (f : FlatInsn) : Type 0 where
  pub rd_in : f.rd < 32
  pub rs1_in : f.rs1 < 32
  pub rs2_in : f.rs2 < 32
