-- The instructions by name and form of operands (RISC-V unprivileged manual, "RV32/64G Instruction Set
-- Listings"; RISC-V Assembly Programmer's Manual).
use Rattle.std.specs.Prelude.{ℕ, ℤ, Bool, is_some, List, [], ◌∷◌, Option, Some, None, if◌then◌else◌, codes}
use Rattle.std.specs.Str.{bytes_eq}
use Rattle.rv_insn.specs.declared.insn.Insn.{Insn}
use Rattle.rv_insn.specs.declared.insn.Insn.TheVariants.{Add, Sub, Sll, Slt, Sltu, Xor, Srl, Sra, Or, And, Mul, Mulh, Mulhsu, Mulhu, Div, Divu, Rem, Remu, Addw, Subw, Sllw, Srlw, Sraw, Mulw, Divw, Divuw, Remw, Remuw, Addi, Slti, Sltiu, Xori, Ori, Andi, Slli, Srli, Srai, Addiw, Slliw, Srliw, Sraiw, Lb, Lh, Lw, Ld, Lbu, Lhu, Lwu, Sb, Sh, Sw, Sd, Beq, Bne, Blt, Bge, Bltu, Bgeu, Lui, Auipc}

-- the row of a name
abbrev pub lookup : {A : Type 0} → List ℕ → List (List ℕ × A) → Option A
lookup name [] = None
lookup name (row ∷ rows) = if bytes_eq name row.0 then Some row.1 else lookup name rows

-- rd, rs1, rs2
abbrev pub op_insns : List (List ℕ × (ℕ → ℕ → ℕ → Insn))
op_insns =
    (codes "add", Add)
    ∷ (codes "sub", Sub)
    ∷ (codes "sll", Sll)
    ∷ (codes "slt", Slt)
    ∷ (codes "sltu", Sltu)
    ∷ (codes "xor", Xor)
    ∷ (codes "srl", Srl)
    ∷ (codes "sra", Sra)
    ∷ (codes "or", Or)
    ∷ (codes "and", And)
    ∷ (codes "mul", Mul)
    ∷ (codes "mulh", Mulh)
    ∷ (codes "mulhsu", Mulhsu)
    ∷ (codes "mulhu", Mulhu)
    ∷ (codes "div", Div)
    ∷ (codes "divu", Divu)
    ∷ (codes "rem", Rem)
    ∷ (codes "remu", Remu)
    ∷ []

-- rd, rs1, rs2
abbrev pub op_32_insns : List (List ℕ × (ℕ → ℕ → ℕ → Insn))
op_32_insns =
    (codes "addw", Addw)
    ∷ (codes "subw", Subw)
    ∷ (codes "sllw", Sllw)
    ∷ (codes "srlw", Srlw)
    ∷ (codes "sraw", Sraw)
    ∷ (codes "mulw", Mulw)
    ∷ (codes "divw", Divw)
    ∷ (codes "divuw", Divuw)
    ∷ (codes "remw", Remw)
    ∷ (codes "remuw", Remuw)
    ∷ []

-- rd, rs1, a low part
abbrev pub imm_insns : List (List ℕ × (ℕ → ℕ → ℤ → Insn))
imm_insns =
    (codes "addi", Addi)
    ∷ (codes "slti", Slti)
    ∷ (codes "sltiu", Sltiu)
    ∷ (codes "xori", Xori)
    ∷ (codes "ori", Ori)
    ∷ (codes "andi", Andi)
    ∷ (codes "addiw", Addiw)
    ∷ []

-- rd, rs1, an amount below 64
abbrev pub shift_insns : List (List ℕ × (ℕ → ℕ → ℤ → Insn))
shift_insns =
    (codes "slli", Slli)
    ∷ (codes "srli", Srli)
    ∷ (codes "srai", Srai)
    ∷ []

-- rd, rs1, an amount below 32
abbrev pub shift_32_insns : List (List ℕ × (ℕ → ℕ → ℤ → Insn))
shift_32_insns =
    (codes "slliw", Slliw)
    ∷ (codes "srliw", Srliw)
    ∷ (codes "sraiw", Sraiw)
    ∷ []

-- rd, a low part(rs1)
abbrev pub load_insns : List (List ℕ × (ℕ → ℕ → ℤ → Insn))
load_insns =
    (codes "lb", Lb)
    ∷ (codes "lh", Lh)
    ∷ (codes "lw", Lw)
    ∷ (codes "ld", Ld)
    ∷ (codes "lbu", Lbu)
    ∷ (codes "lhu", Lhu)
    ∷ (codes "lwu", Lwu)
    ∷ []

-- rs2, a low part(rs1); the constructors take rs1 first
abbrev pub store_insns : List (List ℕ × (ℕ → ℕ → ℤ → Insn))
store_insns =
    (codes "sb", Sb)
    ∷ (codes "sh", Sh)
    ∷ (codes "sw", Sw)
    ∷ (codes "sd", Sd)
    ∷ []

-- rs1, rs2, a symbol
abbrev pub branch_insns : List (List ℕ × (ℕ → ℕ → ℤ → Insn))
branch_insns =
    (codes "beq", Beq)
    ∷ (codes "bne", Bne)
    ∷ (codes "blt", Blt)
    ∷ (codes "bge", Bge)
    ∷ (codes "bltu", Bltu)
    ∷ (codes "bgeu", Bgeu)
    ∷ []

-- rd, an upper part
abbrev pub upper_insns : List (List ℕ × (ℕ → ℤ → Insn))
upper_insns =
    (codes "lui", Lui)
    ∷ (codes "auipc", Auipc)
    ∷ []

abbrev pub given3 : {C : Type 0} → Option (ℕ → ℕ → C → Insn) → ℕ → ℕ → C → Option Insn
given3 None a b c = None
given3 (Some f) a b c = Some (f a b c)

abbrev pub given2 : {C : Type 0} → Option (ℕ → C → Insn) → ℕ → C → Option Insn
given2 None a b = None
given2 (Some f) a b = Some (f a b)

-- ---- the words, and the instructions that they make of operands

unfoldable pub is_op : List ℕ → Bool
is_op word = is_some (lookup word op_insns)

unfoldable pub op_insn_of : List ℕ → ℕ → ℕ → ℕ → Option Insn
op_insn_of word a b c = given3 (lookup word op_insns) a b c

unfoldable pub is_op_32 : List ℕ → Bool
is_op_32 word = is_some (lookup word op_32_insns)

unfoldable pub op_32_insn_of : List ℕ → ℕ → ℕ → ℕ → Option Insn
op_32_insn_of word a b c = given3 (lookup word op_32_insns) a b c

unfoldable pub is_imm : List ℕ → Bool
is_imm word = is_some (lookup word imm_insns)

unfoldable pub imm_insn_of : List ℕ → ℕ → ℕ → ℤ → Option Insn
imm_insn_of word a b c = given3 (lookup word imm_insns) a b c

unfoldable pub is_shift : List ℕ → Bool
is_shift word = is_some (lookup word shift_insns)

unfoldable pub shift_insn_of : List ℕ → ℕ → ℕ → ℤ → Option Insn
shift_insn_of word a b c = given3 (lookup word shift_insns) a b c

unfoldable pub is_shift_32 : List ℕ → Bool
is_shift_32 word = is_some (lookup word shift_32_insns)

unfoldable pub shift_32_insn_of : List ℕ → ℕ → ℕ → ℤ → Option Insn
shift_32_insn_of word a b c = given3 (lookup word shift_32_insns) a b c

unfoldable pub is_load : List ℕ → Bool
is_load word = is_some (lookup word load_insns)

unfoldable pub load_insn_of : List ℕ → ℕ → ℕ → ℤ → Option Insn
load_insn_of word a b c = given3 (lookup word load_insns) a b c

unfoldable pub is_store : List ℕ → Bool
is_store word = is_some (lookup word store_insns)

unfoldable pub store_insn_of : List ℕ → ℕ → ℕ → ℤ → Option Insn
store_insn_of word a b c = given3 (lookup word store_insns) a b c

unfoldable pub is_branch : List ℕ → Bool
is_branch word = is_some (lookup word branch_insns)

unfoldable pub branch_insn_of : List ℕ → ℕ → ℕ → ℤ → Option Insn
branch_insn_of word a b c = given3 (lookup word branch_insns) a b c

unfoldable pub is_upper : List ℕ → Bool
is_upper word = is_some (lookup word upper_insns)

unfoldable pub upper_insn_of : List ℕ → ℕ → ℤ → Option Insn
upper_insn_of word rd imm = given2 (lookup word upper_insns) rd imm
