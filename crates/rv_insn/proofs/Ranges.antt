-- A word's instruction is in range.
use Rattle.std.proofs.Common.{◌≡◌, ℕ, ◌*◌, ◌%◌, ◌^◌, ◌<◌, ◌≤◌, ℤ, pos, negsuc, true, sym, ap, ◌∙◌, arith, lit≤}
use Rattle.std.proofs.lemmas.Bool.{lt-ltb}
use Rattle.orc_words.specs.Bits.{bits_at, signed_of, low_of, fits_bits}
use Rattle.orc_words.specs.Immediates.{i_bits, s_bits, b_bits, u_bits, j_bits, i_immediate, s_immediate, b_immediate, u_immediate, j_immediate}
use Rattle.orc_words.proofs.Fields.{bits_at-lt}
use Rattle.orc_words.proofs.Complement.{fits_bits-signed_of, low_of-signed_of}
use Rattle.rv_insn.specs.Rows.{Fits, IsR, IsI, IsShift, IsShiftWord, IsS, IsB, IsU, IsJ, IsFence}
use Rattle.rv_insn.specs.Range.{InRange, RangeR, RangeI, RangeShift, RangeS, RangeB, RangeU, RangeJ, RangeFence, is_number}
use Rattle.rv_insn.specs.declared.insn.Insn.{Insn}
use Rattle.rv_insn.specs.declared.insn.Insn.TheVariants.{Add, Sub, Sll, Slt, Sltu, Xor, Srl, Sra, Or, And, Mul, Mulh, Mulhsu, Mulhu, Div, Divu, Rem, Remu, Addw, Subw, Sllw, Srlw, Sraw, Mulw, Divw, Divuw, Remw, Remuw, Addi, Slti, Sltiu, Xori, Ori, Andi, Slli, Srli, Srai, Addiw, Slliw, Srliw, Sraiw, Lb, Lh, Lw, Ld, Lbu, Lhu, Lwu, Sb, Sh, Sw, Sd, Beq, Bne, Blt, Bge, Bltu, Bgeu, Lui, Auipc, Jal, Jalr, Fence, Ecall, Ebreak}

-- the low bits of the low bits
low-1-13 : (z : ℤ) → low_of 13 z % 2 ≡ low_of 1 z
low-1-13 (pos k) = omega arith
low-1-13 (negsuc k) = omega arith

low-1-21 : (z : ℤ) → low_of 21 z % 2 ≡ low_of 1 z
low-1-21 (pos k) = omega arith
low-1-21 (negsuc k) = omega arith

low-12-32 : (z : ℤ) → low_of 32 z % 4096 ≡ low_of 12 z
low-12-32 (pos k) = omega arith
low-12-32 (negsuc k) = omega arith

b_bits-even : (w : ℕ) → b_bits w % 2 ^ 13 % 2 ≡ 0
unfolding b_bits
b_bits-even w = omega arith

j_bits-even : (w : ℕ) → j_bits w % 2 ^ 21 % 2 ≡ 0
unfolding j_bits
j_bits-even w = omega arith

-- the immediates
i_fits : (w : ℕ) → fits_bits 12 (i_immediate w) ≡ true
unfolding i_immediate
i_fits w = fits_bits-signed_of 12 (i_bits w) (lit≤ tt)

s_fits : (w : ℕ) → fits_bits 12 (s_immediate w) ≡ true
unfolding s_immediate
s_fits w = fits_bits-signed_of 12 (s_bits w) (lit≤ tt)

b_fits : (w : ℕ) → fits_bits 13 (b_immediate w) ≡ true
unfolding b_immediate
b_fits w = fits_bits-signed_of 13 (b_bits w) (lit≤ tt)

b_even : (w : ℕ) → low_of 1 (b_immediate w) ≡ 0
unfolding b_immediate
b_even w = sym (low-1-13 (signed_of 13 (b_bits w))) ∙ ap (λ n. n % 2) (low_of-signed_of 13 (b_bits w)) ∙ b_bits-even w

u_fits : (w : ℕ) → fits_bits 32 (u_immediate w) ≡ true
unfolding u_immediate
u_fits w = fits_bits-signed_of 32 (u_bits w * 2 ^ 12) (lit≤ tt)

u_upper : (w : ℕ) → low_of 12 (u_immediate w) ≡ 0
unfolding u_immediate
u_upper w =
    let e : u_bits w * 2 ^ 12 % 2 ^ 32 % 4096 ≡ 0 = omega arith in
    sym (low-12-32 (signed_of 32 (u_bits w * 2 ^ 12))) ∙ ap (λ n. n % 4096) (low_of-signed_of 32 (u_bits w * 2 ^ 12)) ∙ e

j_fits : (w : ℕ) → fits_bits 21 (j_immediate w) ≡ true
unfolding j_immediate
j_fits w = fits_bits-signed_of 21 (j_bits w) (lit≤ tt)

j_even : (w : ℕ) → low_of 1 (j_immediate w) ≡ 0
unfolding j_immediate
j_even w = sym (low-1-21 (signed_of 21 (j_bits w))) ∙ ap (λ n. n % 2) (low_of-signed_of 21 (j_bits w)) ∙ j_bits-even w

register_in : {r : ℕ} (low w : ℕ) → r ≡ bits_at low 5 w → r < 32
register_in low w e = omega (arith, e, bits_at-lt low 5 w)

amount_in : (bits w : ℕ) → is_number bits (pos (bits_at 20 bits w)) ≡ true
amount_in bits w = lt-ltb (bits_at 20 bits w) (2 ^ bits) (bits_at-lt 20 bits w)

range_r : {w opcode f3 f7 rd rs1 rs2 : ℕ} → IsR w opcode f3 f7 rd rs1 rs2 → RangeR rd rs1 rs2
range_r {w} f = record { rd_in = register_in 7 w f.rd_is; rs1_in = register_in 15 w f.rs1_is; rs2_in = register_in 20 w f.rs2_is }

range_i : {w opcode f3 rd rs1 : ℕ} {imm : ℤ} → IsI w opcode f3 rd rs1 imm → RangeI rd rs1 imm
range_i {w} f = record { rd_in = register_in 7 w f.rd_is; rs1_in = register_in 15 w f.rs1_is; imm_in = ap (fits_bits 12) f.imm_is ∙ i_fits w }

range_shift : {w opcode f3 f6 rd rs1 : ℕ} {amount : ℤ} → IsShift w opcode f3 f6 rd rs1 amount → RangeShift rd rs1 amount 6
range_shift {w} f =
    record { rd_in = register_in 7 w f.rd_is; rs1_in = register_in 15 w f.rs1_is; amount_in = ap (is_number 6) f.amount_is ∙ amount_in 6 w }

range_shift_word : {w opcode f3 f7 rd rs1 : ℕ} {amount : ℤ} → IsShiftWord w opcode f3 f7 rd rs1 amount → RangeShift rd rs1 amount 5
range_shift_word {w} f =
    record { rd_in = register_in 7 w f.rd_is; rs1_in = register_in 15 w f.rs1_is; amount_in = ap (is_number 5) f.amount_is ∙ amount_in 5 w }

range_s : {w opcode f3 rs1 rs2 : ℕ} {imm : ℤ} → IsS w opcode f3 rs1 rs2 imm → RangeS rs1 rs2 imm
range_s {w} f = record { rs1_in = register_in 15 w f.rs1_is; rs2_in = register_in 20 w f.rs2_is; imm_in = ap (fits_bits 12) f.imm_is ∙ s_fits w }

range_b : {w opcode f3 rs1 rs2 : ℕ} {imm : ℤ} → IsB w opcode f3 rs1 rs2 imm → RangeB rs1 rs2 imm
range_b {w} f =
    record { rs1_in = register_in 15 w f.rs1_is; rs2_in = register_in 20 w f.rs2_is; imm_in = ap (fits_bits 13) f.imm_is ∙ b_fits w; imm_even = ap (low_of 1) f.imm_is ∙ b_even w }

range_u : {w opcode rd : ℕ} {imm : ℤ} → IsU w opcode rd imm → RangeU rd imm
range_u {w} f =
    record { rd_in = register_in 7 w f.rd_is; imm_in = ap (fits_bits 32) f.imm_is ∙ u_fits w; imm_upper = ap (low_of 12) f.imm_is ∙ u_upper w }

range_j : {w opcode rd : ℕ} {imm : ℤ} → IsJ w opcode rd imm → RangeJ rd imm
range_j {w} f =
    record { rd_in = register_in 7 w f.rd_is; imm_in = ap (fits_bits 21) f.imm_is ∙ j_fits w; imm_even = ap (low_of 1) f.imm_is ∙ j_even w }

range_fence : {w opcode f3 whole : ℕ} → IsFence w opcode f3 whole → RangeFence whole opcode f3
range_fence f = record { opcode_in = ap (bits_at 0 7) f.whole_is ∙ f.opcode_is; f3_in = ap (bits_at 12 3) f.whole_is ∙ f.f3_is }

pub in_range : (i : Insn) (w : ℕ) → Fits i w → InRange i
in_range (Add rd rs1 rs2) w f = range_r f
in_range (Sub rd rs1 rs2) w f = range_r f
in_range (Sll rd rs1 rs2) w f = range_r f
in_range (Slt rd rs1 rs2) w f = range_r f
in_range (Sltu rd rs1 rs2) w f = range_r f
in_range (Xor rd rs1 rs2) w f = range_r f
in_range (Srl rd rs1 rs2) w f = range_r f
in_range (Sra rd rs1 rs2) w f = range_r f
in_range (Or rd rs1 rs2) w f = range_r f
in_range (And rd rs1 rs2) w f = range_r f
in_range (Mul rd rs1 rs2) w f = range_r f
in_range (Mulh rd rs1 rs2) w f = range_r f
in_range (Mulhsu rd rs1 rs2) w f = range_r f
in_range (Mulhu rd rs1 rs2) w f = range_r f
in_range (Div rd rs1 rs2) w f = range_r f
in_range (Divu rd rs1 rs2) w f = range_r f
in_range (Rem rd rs1 rs2) w f = range_r f
in_range (Remu rd rs1 rs2) w f = range_r f
in_range (Addw rd rs1 rs2) w f = range_r f
in_range (Subw rd rs1 rs2) w f = range_r f
in_range (Sllw rd rs1 rs2) w f = range_r f
in_range (Srlw rd rs1 rs2) w f = range_r f
in_range (Sraw rd rs1 rs2) w f = range_r f
in_range (Mulw rd rs1 rs2) w f = range_r f
in_range (Divw rd rs1 rs2) w f = range_r f
in_range (Divuw rd rs1 rs2) w f = range_r f
in_range (Remw rd rs1 rs2) w f = range_r f
in_range (Remuw rd rs1 rs2) w f = range_r f
in_range (Addi rd rs1 imm) w f = range_i f
in_range (Slti rd rs1 imm) w f = range_i f
in_range (Sltiu rd rs1 imm) w f = range_i f
in_range (Xori rd rs1 imm) w f = range_i f
in_range (Ori rd rs1 imm) w f = range_i f
in_range (Andi rd rs1 imm) w f = range_i f
in_range (Slli rd rs1 amount) w f = range_shift f
in_range (Srli rd rs1 amount) w f = range_shift f
in_range (Srai rd rs1 amount) w f = range_shift f
in_range (Addiw rd rs1 imm) w f = range_i f
in_range (Slliw rd rs1 amount) w f = range_shift_word f
in_range (Srliw rd rs1 amount) w f = range_shift_word f
in_range (Sraiw rd rs1 amount) w f = range_shift_word f
in_range (Lb rd rs1 imm) w f = range_i f
in_range (Lh rd rs1 imm) w f = range_i f
in_range (Lw rd rs1 imm) w f = range_i f
in_range (Ld rd rs1 imm) w f = range_i f
in_range (Lbu rd rs1 imm) w f = range_i f
in_range (Lhu rd rs1 imm) w f = range_i f
in_range (Lwu rd rs1 imm) w f = range_i f
in_range (Sb rs1 rs2 imm) w f = range_s f
in_range (Sh rs1 rs2 imm) w f = range_s f
in_range (Sw rs1 rs2 imm) w f = range_s f
in_range (Sd rs1 rs2 imm) w f = range_s f
in_range (Beq rs1 rs2 imm) w f = range_b f
in_range (Bne rs1 rs2 imm) w f = range_b f
in_range (Blt rs1 rs2 imm) w f = range_b f
in_range (Bge rs1 rs2 imm) w f = range_b f
in_range (Bltu rs1 rs2 imm) w f = range_b f
in_range (Bgeu rs1 rs2 imm) w f = range_b f
in_range (Lui rd imm) w f = range_u f
in_range (Auipc rd imm) w f = range_u f
in_range (Jal rd imm) w f = range_j f
in_range (Jalr rd rs1 imm) w f = range_i f
in_range (Fence whole) w f = range_fence f
in_range Ecall w f = tt
in_range Ebreak w f = tt
