-- One word alone fits an instruction.
use Rattle.std.proofs.Common.{◌≡◌, ℕ, ◌+◌, ◌*◌, ◌^◌, ◌<◌, ℤ, pos, sym, ap, ◌∙◌, arith}
use Rattle.std.proofs.Math.Nat.{mod-eq_of_lt}
use Rattle.orc_words.specs.Bits.{bits_at, signed_of, low_of}
use Rattle.orc_words.specs.Immediates.{i_bits, s_bits, b_bits, u_bits, j_bits, i_immediate, s_immediate, b_immediate, u_immediate, j_immediate}
use Rattle.orc_words.proofs.Fields.{bits_at-lt}
use Rattle.orc_words.proofs.Complement.{low_of-signed_of}
use Rattle.rv_insn.specs.Rows.{Fits, IsR, IsI, IsShift, IsShiftWord, IsS, IsB, IsU, IsJ, IsFence, IsWhole}
use Rattle.rv_insn.specs.declared.insn.Insn.{Insn}
use Rattle.rv_insn.specs.declared.insn.Insn.TheVariants.{Add, Sub, Sll, Slt, Sltu, Xor, Srl, Sra, Or, And, Mul, Mulh, Mulhsu, Mulhu, Div, Divu, Rem, Remu, Addw, Subw, Sllw, Srlw, Sraw, Mulw, Divw, Divuw, Remw, Remuw, Addi, Slti, Sltiu, Xori, Ori, Andi, Slli, Srli, Srai, Addiw, Slliw, Srliw, Sraiw, Lb, Lh, Lw, Ld, Lbu, Lhu, Lwu, Sb, Sh, Sw, Sd, Beq, Bne, Blt, Bge, Bltu, Bgeu, Lui, Auipc, Jal, Jalr, Fence, Ecall, Ebreak}

-- a word is its parts
whole_r : (w : ℕ) → w < 2 ^ 32 → w ≡ bits_at 0 7 w + bits_at 7 5 w * 2 ^ 7 + bits_at 12 3 w * 2 ^ 12 + bits_at 15 5 w * 2 ^ 15 + bits_at 20 5 w * 2 ^ 20 + bits_at 25 7 w * 2 ^ 25
unfolding bits_at
whole_r w h = omega arith

whole_shift : (w : ℕ) → w < 2 ^ 32 → w ≡ bits_at 0 7 w + bits_at 7 5 w * 2 ^ 7 + bits_at 12 3 w * 2 ^ 12 + bits_at 15 5 w * 2 ^ 15 + bits_at 20 6 w * 2 ^ 20 + bits_at 26 6 w * 2 ^ 26
unfolding bits_at
whole_shift w h = omega arith

whole_i : (w : ℕ) → w < 2 ^ 32 → w ≡ bits_at 0 7 w + bits_at 7 5 w * 2 ^ 7 + bits_at 12 3 w * 2 ^ 12 + bits_at 15 5 w * 2 ^ 15 + bits_at 20 12 w * 2 ^ 20
unfolding bits_at
whole_i w h = omega arith

whole_b : (w : ℕ) → w < 2 ^ 32 → w ≡ bits_at 0 7 w + bits_at 7 1 w * 2 ^ 7 + bits_at 8 4 w * 2 ^ 8 + bits_at 12 3 w * 2 ^ 12 + bits_at 15 5 w * 2 ^ 15 + bits_at 20 5 w * 2 ^ 20 + bits_at 25 6 w * 2 ^ 25 + bits_at 31 1 w * 2 ^ 31
unfolding bits_at
whole_b w h = omega arith

whole_u : (w : ℕ) → w < 2 ^ 32 → w ≡ bits_at 0 7 w + bits_at 7 5 w * 2 ^ 7 + bits_at 12 20 w * 2 ^ 12
unfolding bits_at
whole_u w h = omega arith

whole_j : (w : ℕ) → w < 2 ^ 32 → w ≡ bits_at 0 7 w + bits_at 7 5 w * 2 ^ 7 + bits_at 12 8 w * 2 ^ 12 + bits_at 20 1 w * 2 ^ 20 + bits_at 21 10 w * 2 ^ 21 + bits_at 31 1 w * 2 ^ 31
unfolding bits_at
whole_j w h = omega arith

-- numbers with one signed value have the same low bits
same_bits : (n p q : ℕ) → p < 2 ^ n → q < 2 ^ n → signed_of n p ≡ signed_of n q → p ≡ q
same_bits n p q hp hq e =
    sym (mod-eq_of_lt hp) ∙ sym (low_of-signed_of n p) ∙ ap (low_of n) e ∙ low_of-signed_of n q ∙ mod-eq_of_lt hq

i_same : (v w : ℕ) → i_immediate v ≡ i_immediate w → bits_at 20 12 v ≡ bits_at 20 12 w
unfolding i_immediate i_bits
i_same v w e = same_bits 12 (bits_at 20 12 v) (bits_at 20 12 w) (bits_at-lt 20 12 v) (bits_at-lt 20 12 w) e

s_bits-lt : (w : ℕ) → s_bits w < 2 ^ 12
unfolding s_bits
s_bits-lt w = omega (arith, bits_at-lt 25 7 w, bits_at-lt 7 5 w)

s_same : (v w : ℕ) → s_immediate v ≡ s_immediate w → s_bits v ≡ s_bits w
unfolding s_immediate
s_same v w e = same_bits 12 (s_bits v) (s_bits w) (s_bits-lt v) (s_bits-lt w) e

b_bits-lt : (w : ℕ) → b_bits w < 2 ^ 13
unfolding b_bits
b_bits-lt w = omega (arith, bits_at-lt 31 1 w, bits_at-lt 7 1 w, bits_at-lt 25 6 w, bits_at-lt 8 4 w)

b_same : (v w : ℕ) → b_immediate v ≡ b_immediate w → b_bits v ≡ b_bits w
unfolding b_immediate
b_same v w e = same_bits 13 (b_bits v) (b_bits w) (b_bits-lt v) (b_bits-lt w) e

u_bits-lt : (w : ℕ) → u_bits w * 2 ^ 12 < 2 ^ 32
unfolding u_bits
u_bits-lt w = omega (arith, bits_at-lt 12 20 w)

u_same : (v w : ℕ) → u_immediate v ≡ u_immediate w → u_bits v ≡ u_bits w
unfolding u_immediate
u_same v w e =
    let s = same_bits 32 (u_bits v * 2 ^ 12) (u_bits w * 2 ^ 12) (u_bits-lt v) (u_bits-lt w) e in omega (arith, s)

j_bits-lt : (w : ℕ) → j_bits w < 2 ^ 21
unfolding j_bits
j_bits-lt w = omega (arith, bits_at-lt 31 1 w, bits_at-lt 12 8 w, bits_at-lt 20 1 w, bits_at-lt 21 10 w)

j_same : (v w : ℕ) → j_immediate v ≡ j_immediate w → j_bits v ≡ j_bits w
unfolding j_immediate
j_same v w e = same_bits 21 (j_bits v) (j_bits w) (j_bits-lt v) (j_bits-lt w) e

-- two words of one instruction are one
one_r : {opcode f3 f7 rd rs1 rs2 : ℕ} (v w : ℕ) → v < 2 ^ 32 → w < 2 ^ 32 → IsR v opcode f3 f7 rd rs1 rs2 → IsR w opcode f3 f7 rd rs1 rs2 → v ≡ w
one_r v w hv hw f g =
    omega (arith, whole_r v hv, whole_r w hw, f.opcode_is, f.f3_is, f.f7_is, f.rd_is, f.rs1_is, f.rs2_is, g.opcode_is, g.f3_is, g.f7_is, g.rd_is, g.rs1_is, g.rs2_is)

one_i : {opcode f3 rd rs1 : ℕ} {imm : ℤ} (v w : ℕ) → v < 2 ^ 32 → w < 2 ^ 32 → IsI v opcode f3 rd rs1 imm → IsI w opcode f3 rd rs1 imm → v ≡ w
one_i v w hv hw f g =
    let same = i_same v w (sym f.imm_is ∙ g.imm_is) in
    omega (arith, whole_i v hv, whole_i w hw, f.opcode_is, f.f3_is, f.rd_is, f.rs1_is, g.opcode_is, g.f3_is, g.rd_is, g.rs1_is, same)

same_pos : (m n : ℕ) → pos m ≡ pos n → m ≡ n
same_pos m n e = cc

one_shift : {opcode f3 f6 rd rs1 : ℕ} {amount : ℤ} (v w : ℕ) → v < 2 ^ 32 → w < 2 ^ 32 → IsShift v opcode f3 f6 rd rs1 amount → IsShift w opcode f3 f6 rd rs1 amount → v ≡ w
one_shift v w hv hw f g =
    let same = same_pos (bits_at 20 6 v) (bits_at 20 6 w) (sym f.amount_is ∙ g.amount_is) in
    omega (arith, whole_shift v hv, whole_shift w hw, f.opcode_is, f.f3_is, f.f6_is, f.rd_is, f.rs1_is, g.opcode_is, g.f3_is, g.f6_is, g.rd_is, g.rs1_is, same)

one_shift_word : {opcode f3 f7 rd rs1 : ℕ} {amount : ℤ} (v w : ℕ) → v < 2 ^ 32 → w < 2 ^ 32 → IsShiftWord v opcode f3 f7 rd rs1 amount → IsShiftWord w opcode f3 f7 rd rs1 amount → v ≡ w
one_shift_word v w hv hw f g =
    let same = same_pos (bits_at 20 5 v) (bits_at 20 5 w) (sym f.amount_is ∙ g.amount_is) in
    omega (arith, whole_r v hv, whole_r w hw, f.opcode_is, f.f3_is, f.f7_is, f.rd_is, f.rs1_is, g.opcode_is, g.f3_is, g.f7_is, g.rd_is, g.rs1_is, same)

one_s : {opcode f3 rs1 rs2 : ℕ} {imm : ℤ} (v w : ℕ) → v < 2 ^ 32 → w < 2 ^ 32 → IsS v opcode f3 rs1 rs2 imm → IsS w opcode f3 rs1 rs2 imm → v ≡ w
unfolding s_bits
one_s v w hv hw f g =
    let same : bits_at 25 7 v * 2 ^ 5 + bits_at 7 5 v ≡ bits_at 25 7 w * 2 ^ 5 + bits_at 7 5 w = s_same v w (sym f.imm_is ∙ g.imm_is) in
    omega (arith, whole_r v hv, whole_r w hw, f.opcode_is, f.f3_is, f.rs1_is, f.rs2_is, g.opcode_is, g.f3_is, g.rs1_is, g.rs2_is, same, bits_at-lt 7 5 v, bits_at-lt 7 5 w)

b_parts : (v w : ℕ) → b_bits v ≡ b_bits w → (bits_at 31 1 v ≡ bits_at 31 1 w) × (bits_at 7 1 v ≡ bits_at 7 1 w) × (bits_at 25 6 v ≡ bits_at 25 6 w) × (bits_at 8 4 v ≡ bits_at 8 4 w)
unfolding b_bits
b_parts v w e =
    let a = bits_at-lt 7 1 v in let b = bits_at-lt 7 1 w in let c = bits_at-lt 25 6 v in let d = bits_at-lt 25 6 w in let f = bits_at-lt 8 4 v in let g = bits_at-lt 8 4 w in
    (omega arith, omega arith, omega arith, omega arith)

one_b : {opcode f3 rs1 rs2 : ℕ} {imm : ℤ} (v w : ℕ) → v < 2 ^ 32 → w < 2 ^ 32 → IsB v opcode f3 rs1 rs2 imm → IsB w opcode f3 rs1 rs2 imm → v ≡ w
one_b v w hv hw f g =
    let same = b_parts v w (b_same v w (sym f.imm_is ∙ g.imm_is)) in
    omega (arith, whole_b v hv, whole_b w hw, f.opcode_is, f.f3_is, f.rs1_is, f.rs2_is, g.opcode_is, g.f3_is, g.rs1_is, g.rs2_is, same.0, same.1, same.2, same.3)

one_u : {opcode rd : ℕ} {imm : ℤ} (v w : ℕ) → v < 2 ^ 32 → w < 2 ^ 32 → IsU v opcode rd imm → IsU w opcode rd imm → v ≡ w
unfolding u_bits
one_u v w hv hw f g =
    let same : bits_at 12 20 v ≡ bits_at 12 20 w = u_same v w (sym f.imm_is ∙ g.imm_is) in
    omega (arith, whole_u v hv, whole_u w hw, f.opcode_is, f.rd_is, g.opcode_is, g.rd_is, same)

j_parts : (v w : ℕ) → j_bits v ≡ j_bits w → (bits_at 31 1 v ≡ bits_at 31 1 w) × (bits_at 12 8 v ≡ bits_at 12 8 w) × (bits_at 20 1 v ≡ bits_at 20 1 w) × (bits_at 21 10 v ≡ bits_at 21 10 w)
unfolding j_bits
j_parts v w e =
    let a = bits_at-lt 12 8 v in let b = bits_at-lt 12 8 w in let c = bits_at-lt 20 1 v in let d = bits_at-lt 20 1 w in let f = bits_at-lt 21 10 v in let g = bits_at-lt 21 10 w in
    (omega arith, omega arith, omega arith, omega arith)

one_j : {opcode rd : ℕ} {imm : ℤ} (v w : ℕ) → v < 2 ^ 32 → w < 2 ^ 32 → IsJ v opcode rd imm → IsJ w opcode rd imm → v ≡ w
one_j v w hv hw f g =
    let same = j_parts v w (j_same v w (sym f.imm_is ∙ g.imm_is)) in
    omega (arith, whole_j v hv, whole_j w hw, f.opcode_is, f.rd_is, g.opcode_is, g.rd_is, same.0, same.1, same.2, same.3)

one_fence : {opcode f3 whole : ℕ} (v w : ℕ) → v < 2 ^ 32 → w < 2 ^ 32 → IsFence v opcode f3 whole → IsFence w opcode f3 whole → v ≡ w
one_fence v w hv hw f g = sym f.whole_is ∙ g.whole_is

one_whole : {opcode whole : ℕ} (v w : ℕ) → v < 2 ^ 32 → w < 2 ^ 32 → IsWhole v opcode whole → IsWhole w opcode whole → v ≡ w
one_whole v w hv hw f g = f.whole_is ∙ sym g.whole_is

pub one_word : (i : Insn) (v w : ℕ) → v < 2 ^ 32 → w < 2 ^ 32 → Fits i v → Fits i w → v ≡ w
one_word (Add rd rs1 rs2) v w hv hw f g = one_r v w hv hw f g
one_word (Sub rd rs1 rs2) v w hv hw f g = one_r v w hv hw f g
one_word (Sll rd rs1 rs2) v w hv hw f g = one_r v w hv hw f g
one_word (Slt rd rs1 rs2) v w hv hw f g = one_r v w hv hw f g
one_word (Sltu rd rs1 rs2) v w hv hw f g = one_r v w hv hw f g
one_word (Xor rd rs1 rs2) v w hv hw f g = one_r v w hv hw f g
one_word (Srl rd rs1 rs2) v w hv hw f g = one_r v w hv hw f g
one_word (Sra rd rs1 rs2) v w hv hw f g = one_r v w hv hw f g
one_word (Or rd rs1 rs2) v w hv hw f g = one_r v w hv hw f g
one_word (And rd rs1 rs2) v w hv hw f g = one_r v w hv hw f g
one_word (Mul rd rs1 rs2) v w hv hw f g = one_r v w hv hw f g
one_word (Mulh rd rs1 rs2) v w hv hw f g = one_r v w hv hw f g
one_word (Mulhsu rd rs1 rs2) v w hv hw f g = one_r v w hv hw f g
one_word (Mulhu rd rs1 rs2) v w hv hw f g = one_r v w hv hw f g
one_word (Div rd rs1 rs2) v w hv hw f g = one_r v w hv hw f g
one_word (Divu rd rs1 rs2) v w hv hw f g = one_r v w hv hw f g
one_word (Rem rd rs1 rs2) v w hv hw f g = one_r v w hv hw f g
one_word (Remu rd rs1 rs2) v w hv hw f g = one_r v w hv hw f g
one_word (Addw rd rs1 rs2) v w hv hw f g = one_r v w hv hw f g
one_word (Subw rd rs1 rs2) v w hv hw f g = one_r v w hv hw f g
one_word (Sllw rd rs1 rs2) v w hv hw f g = one_r v w hv hw f g
one_word (Srlw rd rs1 rs2) v w hv hw f g = one_r v w hv hw f g
one_word (Sraw rd rs1 rs2) v w hv hw f g = one_r v w hv hw f g
one_word (Mulw rd rs1 rs2) v w hv hw f g = one_r v w hv hw f g
one_word (Divw rd rs1 rs2) v w hv hw f g = one_r v w hv hw f g
one_word (Divuw rd rs1 rs2) v w hv hw f g = one_r v w hv hw f g
one_word (Remw rd rs1 rs2) v w hv hw f g = one_r v w hv hw f g
one_word (Remuw rd rs1 rs2) v w hv hw f g = one_r v w hv hw f g
one_word (Addi rd rs1 imm) v w hv hw f g = one_i v w hv hw f g
one_word (Slti rd rs1 imm) v w hv hw f g = one_i v w hv hw f g
one_word (Sltiu rd rs1 imm) v w hv hw f g = one_i v w hv hw f g
one_word (Xori rd rs1 imm) v w hv hw f g = one_i v w hv hw f g
one_word (Ori rd rs1 imm) v w hv hw f g = one_i v w hv hw f g
one_word (Andi rd rs1 imm) v w hv hw f g = one_i v w hv hw f g
one_word (Slli rd rs1 amount) v w hv hw f g = one_shift v w hv hw f g
one_word (Srli rd rs1 amount) v w hv hw f g = one_shift v w hv hw f g
one_word (Srai rd rs1 amount) v w hv hw f g = one_shift v w hv hw f g
one_word (Addiw rd rs1 imm) v w hv hw f g = one_i v w hv hw f g
one_word (Slliw rd rs1 amount) v w hv hw f g = one_shift_word v w hv hw f g
one_word (Srliw rd rs1 amount) v w hv hw f g = one_shift_word v w hv hw f g
one_word (Sraiw rd rs1 amount) v w hv hw f g = one_shift_word v w hv hw f g
one_word (Lb rd rs1 imm) v w hv hw f g = one_i v w hv hw f g
one_word (Lh rd rs1 imm) v w hv hw f g = one_i v w hv hw f g
one_word (Lw rd rs1 imm) v w hv hw f g = one_i v w hv hw f g
one_word (Ld rd rs1 imm) v w hv hw f g = one_i v w hv hw f g
one_word (Lbu rd rs1 imm) v w hv hw f g = one_i v w hv hw f g
one_word (Lhu rd rs1 imm) v w hv hw f g = one_i v w hv hw f g
one_word (Lwu rd rs1 imm) v w hv hw f g = one_i v w hv hw f g
one_word (Sb rs1 rs2 imm) v w hv hw f g = one_s v w hv hw f g
one_word (Sh rs1 rs2 imm) v w hv hw f g = one_s v w hv hw f g
one_word (Sw rs1 rs2 imm) v w hv hw f g = one_s v w hv hw f g
one_word (Sd rs1 rs2 imm) v w hv hw f g = one_s v w hv hw f g
one_word (Beq rs1 rs2 imm) v w hv hw f g = one_b v w hv hw f g
one_word (Bne rs1 rs2 imm) v w hv hw f g = one_b v w hv hw f g
one_word (Blt rs1 rs2 imm) v w hv hw f g = one_b v w hv hw f g
one_word (Bge rs1 rs2 imm) v w hv hw f g = one_b v w hv hw f g
one_word (Bltu rs1 rs2 imm) v w hv hw f g = one_b v w hv hw f g
one_word (Bgeu rs1 rs2 imm) v w hv hw f g = one_b v w hv hw f g
one_word (Lui rd imm) v w hv hw f g = one_u v w hv hw f g
one_word (Auipc rd imm) v w hv hw f g = one_u v w hv hw f g
one_word (Jal rd imm) v w hv hw f g = one_j v w hv hw f g
one_word (Jalr rd rs1 imm) v w hv hw f g = one_i v w hv hw f g
one_word (Fence whole) v w hv hw f g = one_fence v w hv hw f g
one_word Ecall v w hv hw f g = one_whole v w hv hw f g
one_word Ebreak v w hv hw f g = one_whole v w hv hw f g
