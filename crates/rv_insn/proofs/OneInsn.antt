-- One instruction alone fits a word: the one that its fields make.
use Rattle.std.proofs.Common.{◌≡◌, ℕ, ℤ, pos, ◌==◌, if◌then◌else◌, sym, ap, ◌∙◌}
use Rattle.orc_words.specs.Bits.{bits_at}
use Rattle.orc_words.specs.Immediates.{i_immediate, s_immediate, b_immediate, u_immediate, j_immediate}
use Rattle.rv_insn.specs.Rows.{Fits}
use Rattle.rv_insn.specs.declared.insn.Insn.{Insn}
use Rattle.rv_insn.specs.declared.insn.Insn.TheVariants.{Add, Sub, Sll, Slt, Sltu, Xor, Srl, Sra, Or, And, Mul, Mulh, Mulhsu, Mulhu, Div, Divu, Rem, Remu, Addw, Subw, Sllw, Srlw, Sraw, Mulw, Divw, Divuw, Remw, Remuw, Addi, Slti, Sltiu, Xori, Ori, Andi, Slli, Srli, Srai, Addiw, Slliw, Srliw, Sraiw, Lb, Lh, Lw, Ld, Lbu, Lhu, Lwu, Sb, Sh, Sw, Sd, Beq, Bne, Blt, Bge, Bltu, Bgeu, Lui, Auipc, Jal, Jalr, Fence, Ecall, Ebreak}

-- the rows of each opcode by bits 14..12 and the bits that name them above
op : ℕ → ℕ → ℕ → Insn
op f3 high w = if high == 0 then (if f3 == 0 then Add (bits_at 7 5 w) (bits_at 15 5 w) (bits_at 20 5 w) else (if f3 == 1 then Sll (bits_at 7 5 w) (bits_at 15 5 w) (bits_at 20 5 w) else (if f3 == 2 then Slt (bits_at 7 5 w) (bits_at 15 5 w) (bits_at 20 5 w) else (if f3 == 3 then Sltu (bits_at 7 5 w) (bits_at 15 5 w) (bits_at 20 5 w) else (if f3 == 4 then Xor (bits_at 7 5 w) (bits_at 15 5 w) (bits_at 20 5 w) else (if f3 == 5 then Srl (bits_at 7 5 w) (bits_at 15 5 w) (bits_at 20 5 w) else (if f3 == 6 then Or (bits_at 7 5 w) (bits_at 15 5 w) (bits_at 20 5 w) else (And (bits_at 7 5 w) (bits_at 15 5 w) (bits_at 20 5 w))))))))) else (if high == 32 then (if f3 == 0 then Sub (bits_at 7 5 w) (bits_at 15 5 w) (bits_at 20 5 w) else (Sra (bits_at 7 5 w) (bits_at 15 5 w) (bits_at 20 5 w))) else (if f3 == 0 then Mul (bits_at 7 5 w) (bits_at 15 5 w) (bits_at 20 5 w) else (if f3 == 1 then Mulh (bits_at 7 5 w) (bits_at 15 5 w) (bits_at 20 5 w) else (if f3 == 2 then Mulhsu (bits_at 7 5 w) (bits_at 15 5 w) (bits_at 20 5 w) else (if f3 == 3 then Mulhu (bits_at 7 5 w) (bits_at 15 5 w) (bits_at 20 5 w) else (if f3 == 4 then Div (bits_at 7 5 w) (bits_at 15 5 w) (bits_at 20 5 w) else (if f3 == 5 then Divu (bits_at 7 5 w) (bits_at 15 5 w) (bits_at 20 5 w) else (if f3 == 6 then Rem (bits_at 7 5 w) (bits_at 15 5 w) (bits_at 20 5 w) else (Remu (bits_at 7 5 w) (bits_at 15 5 w) (bits_at 20 5 w))))))))))

op_32 : ℕ → ℕ → ℕ → Insn
op_32 f3 high w = if high == 0 then (if f3 == 0 then Addw (bits_at 7 5 w) (bits_at 15 5 w) (bits_at 20 5 w) else (if f3 == 1 then Sllw (bits_at 7 5 w) (bits_at 15 5 w) (bits_at 20 5 w) else (Srlw (bits_at 7 5 w) (bits_at 15 5 w) (bits_at 20 5 w)))) else (if high == 32 then (if f3 == 0 then Subw (bits_at 7 5 w) (bits_at 15 5 w) (bits_at 20 5 w) else (Sraw (bits_at 7 5 w) (bits_at 15 5 w) (bits_at 20 5 w))) else (if f3 == 0 then Mulw (bits_at 7 5 w) (bits_at 15 5 w) (bits_at 20 5 w) else (if f3 == 4 then Divw (bits_at 7 5 w) (bits_at 15 5 w) (bits_at 20 5 w) else (if f3 == 5 then Divuw (bits_at 7 5 w) (bits_at 15 5 w) (bits_at 20 5 w) else (if f3 == 6 then Remw (bits_at 7 5 w) (bits_at 15 5 w) (bits_at 20 5 w) else (Remuw (bits_at 7 5 w) (bits_at 15 5 w) (bits_at 20 5 w)))))))

imm : ℕ → ℕ → ℕ → Insn
imm f3 high w = if f3 == 0 then Addi (bits_at 7 5 w) (bits_at 15 5 w) (i_immediate w) else (if f3 == 2 then Slti (bits_at 7 5 w) (bits_at 15 5 w) (i_immediate w) else (if f3 == 3 then Sltiu (bits_at 7 5 w) (bits_at 15 5 w) (i_immediate w) else (if f3 == 4 then Xori (bits_at 7 5 w) (bits_at 15 5 w) (i_immediate w) else (if f3 == 6 then Ori (bits_at 7 5 w) (bits_at 15 5 w) (i_immediate w) else (if f3 == 7 then Andi (bits_at 7 5 w) (bits_at 15 5 w) (i_immediate w) else (if high == 0 then (if f3 == 1 then Slli (bits_at 7 5 w) (bits_at 15 5 w) (pos (bits_at 20 6 w)) else (Srli (bits_at 7 5 w) (bits_at 15 5 w) (pos (bits_at 20 6 w)))) else (Srai (bits_at 7 5 w) (bits_at 15 5 w) (pos (bits_at 20 6 w)))))))))

imm_32 : ℕ → ℕ → ℕ → Insn
imm_32 f3 high w = if f3 == 0 then Addiw (bits_at 7 5 w) (bits_at 15 5 w) (i_immediate w) else (if high == 0 then (if f3 == 1 then Slliw (bits_at 7 5 w) (bits_at 15 5 w) (pos (bits_at 20 5 w)) else (Srliw (bits_at 7 5 w) (bits_at 15 5 w) (pos (bits_at 20 5 w)))) else (Sraiw (bits_at 7 5 w) (bits_at 15 5 w) (pos (bits_at 20 5 w))))

load : ℕ → ℕ → Insn
load f3 w = if f3 == 0 then Lb (bits_at 7 5 w) (bits_at 15 5 w) (i_immediate w) else (if f3 == 1 then Lh (bits_at 7 5 w) (bits_at 15 5 w) (i_immediate w) else (if f3 == 2 then Lw (bits_at 7 5 w) (bits_at 15 5 w) (i_immediate w) else (if f3 == 3 then Ld (bits_at 7 5 w) (bits_at 15 5 w) (i_immediate w) else (if f3 == 4 then Lbu (bits_at 7 5 w) (bits_at 15 5 w) (i_immediate w) else (if f3 == 5 then Lhu (bits_at 7 5 w) (bits_at 15 5 w) (i_immediate w) else (Lwu (bits_at 7 5 w) (bits_at 15 5 w) (i_immediate w)))))))

store : ℕ → ℕ → Insn
store f3 w = if f3 == 0 then Sb (bits_at 15 5 w) (bits_at 20 5 w) (s_immediate w) else (if f3 == 1 then Sh (bits_at 15 5 w) (bits_at 20 5 w) (s_immediate w) else (if f3 == 2 then Sw (bits_at 15 5 w) (bits_at 20 5 w) (s_immediate w) else (Sd (bits_at 15 5 w) (bits_at 20 5 w) (s_immediate w))))

branch : ℕ → ℕ → Insn
branch f3 w = if f3 == 0 then Beq (bits_at 15 5 w) (bits_at 20 5 w) (b_immediate w) else (if f3 == 1 then Bne (bits_at 15 5 w) (bits_at 20 5 w) (b_immediate w) else (if f3 == 4 then Blt (bits_at 15 5 w) (bits_at 20 5 w) (b_immediate w) else (if f3 == 5 then Bge (bits_at 15 5 w) (bits_at 20 5 w) (b_immediate w) else (if f3 == 6 then Bltu (bits_at 15 5 w) (bits_at 20 5 w) (b_immediate w) else (Bgeu (bits_at 15 5 w) (bits_at 20 5 w) (b_immediate w))))))

system : ℕ → ℕ → Insn
system whole w = if whole == 0x73 then Ecall else Ebreak

-- the instruction of a word with these parts
made : (opcode f3 f6 f7 whole w : ℕ) → Insn
made opcode f3 f6 f7 whole w =
    if opcode == 0x33 then op f3 f7 w else (if opcode == 0x3B then op_32 f3 f7 w else (if opcode == 0x13 then imm f3 f6 w else (if opcode == 0x1B then imm_32 f3 f7 w else (if opcode == 0x03 then load f3 w else (if opcode == 0x23 then store f3 w else (if opcode == 0x63 then branch f3 w else (if opcode == 0x37 then Lui (bits_at 7 5 w) (u_immediate w) else (if opcode == 0x17 then Auipc (bits_at 7 5 w) (u_immediate w) else (if opcode == 0x6F then Jal (bits_at 7 5 w) (j_immediate w) else (if opcode == 0x67 then Jalr (bits_at 7 5 w) (bits_at 15 5 w) (i_immediate w) else (if opcode == 0x0F then Fence w else system whole w)))))))))))

insn_of : ℕ → Insn
insn_of w = made (bits_at 0 7 w) (bits_at 12 3 w) (bits_at 26 6 w) (bits_at 25 7 w) w w

-- its parts known
by_7 : {opcode f3 f7 : ℕ} (w : ℕ) → bits_at 0 7 w ≡ opcode → bits_at 12 3 w ≡ f3 → bits_at 25 7 w ≡ f7 → insn_of w ≡ made opcode f3 (bits_at 26 6 w) f7 w w
unfolding insn_of
by_7 {opcode} {f3} {f7} w a b c =
    ap (λ o. made o (bits_at 12 3 w) (bits_at 26 6 w) (bits_at 25 7 w) w w) a
    ∙ ap (λ n. made opcode n (bits_at 26 6 w) (bits_at 25 7 w) w w) b
    ∙ ap (λ n. made opcode f3 (bits_at 26 6 w) n w w) c

by_6 : {opcode f3 f6 : ℕ} (w : ℕ) → bits_at 0 7 w ≡ opcode → bits_at 12 3 w ≡ f3 → bits_at 26 6 w ≡ f6 → insn_of w ≡ made opcode f3 f6 (bits_at 25 7 w) w w
unfolding insn_of
by_6 {opcode} {f3} {f6} w a b c =
    ap (λ o. made o (bits_at 12 3 w) (bits_at 26 6 w) (bits_at 25 7 w) w w) a
    ∙ ap (λ n. made opcode n (bits_at 26 6 w) (bits_at 25 7 w) w w) b
    ∙ ap (λ n. made opcode f3 n (bits_at 25 7 w) w w) c

by_3 : {opcode f3 : ℕ} (w : ℕ) → bits_at 0 7 w ≡ opcode → bits_at 12 3 w ≡ f3 → insn_of w ≡ made opcode f3 (bits_at 26 6 w) (bits_at 25 7 w) w w
unfolding insn_of
by_3 {opcode} w a b =
    ap (λ o. made o (bits_at 12 3 w) (bits_at 26 6 w) (bits_at 25 7 w) w w) a
    ∙ ap (λ n. made opcode n (bits_at 26 6 w) (bits_at 25 7 w) w w) b

by_opcode : {opcode : ℕ} (w : ℕ) → bits_at 0 7 w ≡ opcode → insn_of w ≡ made opcode (bits_at 12 3 w) (bits_at 26 6 w) (bits_at 25 7 w) w w
unfolding insn_of
by_opcode w a = ap (λ o. made o (bits_at 12 3 w) (bits_at 26 6 w) (bits_at 25 7 w) w w) a

by_whole : {opcode whole : ℕ} (w : ℕ) → bits_at 0 7 w ≡ opcode → w ≡ whole → insn_of w ≡ made opcode (bits_at 12 3 w) (bits_at 26 6 w) (bits_at 25 7 w) whole w
by_whole {opcode} w a b = by_opcode w a ∙ ap (λ n. made opcode (bits_at 12 3 w) (bits_at 26 6 w) (bits_at 25 7 w) n w) b

-- an instruction's fields are its word's
fields : (C : ℕ → ℕ → ℕ → Insn) {a b c x y z : ℕ} → a ≡ x → b ≡ y → c ≡ z → C a b c ≡ C x y z
fields C p q r = cc

fields_imm : (C : ℕ → ℕ → ℤ → Insn) {a b x y : ℕ} {c z : ℤ} → a ≡ x → b ≡ y → c ≡ z → C a b c ≡ C x y z
fields_imm C p q r = cc

fields_upper : (C : ℕ → ℤ → Insn) {a x : ℕ} {c z : ℤ} → a ≡ x → c ≡ z → C a c ≡ C x z
fields_upper C p r = cc

is_made : (i : Insn) (w : ℕ) → Fits i w → i ≡ insn_of w
unfolding made op op_32 imm imm_32 load store branch system
is_made (Add rd rs1 rs2) w f = fields (λ a b c. Add a b c) f.rd_is f.rs1_is f.rs2_is ∙ sym (by_7 w f.opcode_is f.f3_is f.f7_is)
is_made (Sub rd rs1 rs2) w f = fields (λ a b c. Sub a b c) f.rd_is f.rs1_is f.rs2_is ∙ sym (by_7 w f.opcode_is f.f3_is f.f7_is)
is_made (Sll rd rs1 rs2) w f = fields (λ a b c. Sll a b c) f.rd_is f.rs1_is f.rs2_is ∙ sym (by_7 w f.opcode_is f.f3_is f.f7_is)
is_made (Slt rd rs1 rs2) w f = fields (λ a b c. Slt a b c) f.rd_is f.rs1_is f.rs2_is ∙ sym (by_7 w f.opcode_is f.f3_is f.f7_is)
is_made (Sltu rd rs1 rs2) w f = fields (λ a b c. Sltu a b c) f.rd_is f.rs1_is f.rs2_is ∙ sym (by_7 w f.opcode_is f.f3_is f.f7_is)
is_made (Xor rd rs1 rs2) w f = fields (λ a b c. Xor a b c) f.rd_is f.rs1_is f.rs2_is ∙ sym (by_7 w f.opcode_is f.f3_is f.f7_is)
is_made (Srl rd rs1 rs2) w f = fields (λ a b c. Srl a b c) f.rd_is f.rs1_is f.rs2_is ∙ sym (by_7 w f.opcode_is f.f3_is f.f7_is)
is_made (Sra rd rs1 rs2) w f = fields (λ a b c. Sra a b c) f.rd_is f.rs1_is f.rs2_is ∙ sym (by_7 w f.opcode_is f.f3_is f.f7_is)
is_made (Or rd rs1 rs2) w f = fields (λ a b c. Or a b c) f.rd_is f.rs1_is f.rs2_is ∙ sym (by_7 w f.opcode_is f.f3_is f.f7_is)
is_made (And rd rs1 rs2) w f = fields (λ a b c. And a b c) f.rd_is f.rs1_is f.rs2_is ∙ sym (by_7 w f.opcode_is f.f3_is f.f7_is)
is_made (Mul rd rs1 rs2) w f = fields (λ a b c. Mul a b c) f.rd_is f.rs1_is f.rs2_is ∙ sym (by_7 w f.opcode_is f.f3_is f.f7_is)
is_made (Mulh rd rs1 rs2) w f = fields (λ a b c. Mulh a b c) f.rd_is f.rs1_is f.rs2_is ∙ sym (by_7 w f.opcode_is f.f3_is f.f7_is)
is_made (Mulhsu rd rs1 rs2) w f = fields (λ a b c. Mulhsu a b c) f.rd_is f.rs1_is f.rs2_is ∙ sym (by_7 w f.opcode_is f.f3_is f.f7_is)
is_made (Mulhu rd rs1 rs2) w f = fields (λ a b c. Mulhu a b c) f.rd_is f.rs1_is f.rs2_is ∙ sym (by_7 w f.opcode_is f.f3_is f.f7_is)
is_made (Div rd rs1 rs2) w f = fields (λ a b c. Div a b c) f.rd_is f.rs1_is f.rs2_is ∙ sym (by_7 w f.opcode_is f.f3_is f.f7_is)
is_made (Divu rd rs1 rs2) w f = fields (λ a b c. Divu a b c) f.rd_is f.rs1_is f.rs2_is ∙ sym (by_7 w f.opcode_is f.f3_is f.f7_is)
is_made (Rem rd rs1 rs2) w f = fields (λ a b c. Rem a b c) f.rd_is f.rs1_is f.rs2_is ∙ sym (by_7 w f.opcode_is f.f3_is f.f7_is)
is_made (Remu rd rs1 rs2) w f = fields (λ a b c. Remu a b c) f.rd_is f.rs1_is f.rs2_is ∙ sym (by_7 w f.opcode_is f.f3_is f.f7_is)
is_made (Addw rd rs1 rs2) w f = fields (λ a b c. Addw a b c) f.rd_is f.rs1_is f.rs2_is ∙ sym (by_7 w f.opcode_is f.f3_is f.f7_is)
is_made (Subw rd rs1 rs2) w f = fields (λ a b c. Subw a b c) f.rd_is f.rs1_is f.rs2_is ∙ sym (by_7 w f.opcode_is f.f3_is f.f7_is)
is_made (Sllw rd rs1 rs2) w f = fields (λ a b c. Sllw a b c) f.rd_is f.rs1_is f.rs2_is ∙ sym (by_7 w f.opcode_is f.f3_is f.f7_is)
is_made (Srlw rd rs1 rs2) w f = fields (λ a b c. Srlw a b c) f.rd_is f.rs1_is f.rs2_is ∙ sym (by_7 w f.opcode_is f.f3_is f.f7_is)
is_made (Sraw rd rs1 rs2) w f = fields (λ a b c. Sraw a b c) f.rd_is f.rs1_is f.rs2_is ∙ sym (by_7 w f.opcode_is f.f3_is f.f7_is)
is_made (Mulw rd rs1 rs2) w f = fields (λ a b c. Mulw a b c) f.rd_is f.rs1_is f.rs2_is ∙ sym (by_7 w f.opcode_is f.f3_is f.f7_is)
is_made (Divw rd rs1 rs2) w f = fields (λ a b c. Divw a b c) f.rd_is f.rs1_is f.rs2_is ∙ sym (by_7 w f.opcode_is f.f3_is f.f7_is)
is_made (Divuw rd rs1 rs2) w f = fields (λ a b c. Divuw a b c) f.rd_is f.rs1_is f.rs2_is ∙ sym (by_7 w f.opcode_is f.f3_is f.f7_is)
is_made (Remw rd rs1 rs2) w f = fields (λ a b c. Remw a b c) f.rd_is f.rs1_is f.rs2_is ∙ sym (by_7 w f.opcode_is f.f3_is f.f7_is)
is_made (Remuw rd rs1 rs2) w f = fields (λ a b c. Remuw a b c) f.rd_is f.rs1_is f.rs2_is ∙ sym (by_7 w f.opcode_is f.f3_is f.f7_is)
is_made (Addi rd rs1 imm) w f = fields_imm (λ a b c. Addi a b c) f.rd_is f.rs1_is f.imm_is ∙ sym (by_3 w f.opcode_is f.f3_is)
is_made (Slti rd rs1 imm) w f = fields_imm (λ a b c. Slti a b c) f.rd_is f.rs1_is f.imm_is ∙ sym (by_3 w f.opcode_is f.f3_is)
is_made (Sltiu rd rs1 imm) w f = fields_imm (λ a b c. Sltiu a b c) f.rd_is f.rs1_is f.imm_is ∙ sym (by_3 w f.opcode_is f.f3_is)
is_made (Xori rd rs1 imm) w f = fields_imm (λ a b c. Xori a b c) f.rd_is f.rs1_is f.imm_is ∙ sym (by_3 w f.opcode_is f.f3_is)
is_made (Ori rd rs1 imm) w f = fields_imm (λ a b c. Ori a b c) f.rd_is f.rs1_is f.imm_is ∙ sym (by_3 w f.opcode_is f.f3_is)
is_made (Andi rd rs1 imm) w f = fields_imm (λ a b c. Andi a b c) f.rd_is f.rs1_is f.imm_is ∙ sym (by_3 w f.opcode_is f.f3_is)
is_made (Slli rd rs1 amount) w f = fields_imm (λ a b c. Slli a b c) f.rd_is f.rs1_is f.amount_is ∙ sym (by_6 w f.opcode_is f.f3_is f.f6_is)
is_made (Srli rd rs1 amount) w f = fields_imm (λ a b c. Srli a b c) f.rd_is f.rs1_is f.amount_is ∙ sym (by_6 w f.opcode_is f.f3_is f.f6_is)
is_made (Srai rd rs1 amount) w f = fields_imm (λ a b c. Srai a b c) f.rd_is f.rs1_is f.amount_is ∙ sym (by_6 w f.opcode_is f.f3_is f.f6_is)
is_made (Addiw rd rs1 imm) w f = fields_imm (λ a b c. Addiw a b c) f.rd_is f.rs1_is f.imm_is ∙ sym (by_3 w f.opcode_is f.f3_is)
is_made (Slliw rd rs1 amount) w f = fields_imm (λ a b c. Slliw a b c) f.rd_is f.rs1_is f.amount_is ∙ sym (by_7 w f.opcode_is f.f3_is f.f7_is)
is_made (Srliw rd rs1 amount) w f = fields_imm (λ a b c. Srliw a b c) f.rd_is f.rs1_is f.amount_is ∙ sym (by_7 w f.opcode_is f.f3_is f.f7_is)
is_made (Sraiw rd rs1 amount) w f = fields_imm (λ a b c. Sraiw a b c) f.rd_is f.rs1_is f.amount_is ∙ sym (by_7 w f.opcode_is f.f3_is f.f7_is)
is_made (Lb rd rs1 imm) w f = fields_imm (λ a b c. Lb a b c) f.rd_is f.rs1_is f.imm_is ∙ sym (by_3 w f.opcode_is f.f3_is)
is_made (Lh rd rs1 imm) w f = fields_imm (λ a b c. Lh a b c) f.rd_is f.rs1_is f.imm_is ∙ sym (by_3 w f.opcode_is f.f3_is)
is_made (Lw rd rs1 imm) w f = fields_imm (λ a b c. Lw a b c) f.rd_is f.rs1_is f.imm_is ∙ sym (by_3 w f.opcode_is f.f3_is)
is_made (Ld rd rs1 imm) w f = fields_imm (λ a b c. Ld a b c) f.rd_is f.rs1_is f.imm_is ∙ sym (by_3 w f.opcode_is f.f3_is)
is_made (Lbu rd rs1 imm) w f = fields_imm (λ a b c. Lbu a b c) f.rd_is f.rs1_is f.imm_is ∙ sym (by_3 w f.opcode_is f.f3_is)
is_made (Lhu rd rs1 imm) w f = fields_imm (λ a b c. Lhu a b c) f.rd_is f.rs1_is f.imm_is ∙ sym (by_3 w f.opcode_is f.f3_is)
is_made (Lwu rd rs1 imm) w f = fields_imm (λ a b c. Lwu a b c) f.rd_is f.rs1_is f.imm_is ∙ sym (by_3 w f.opcode_is f.f3_is)
is_made (Sb rs1 rs2 imm) w f = fields_imm (λ a b c. Sb a b c) f.rs1_is f.rs2_is f.imm_is ∙ sym (by_3 w f.opcode_is f.f3_is)
is_made (Sh rs1 rs2 imm) w f = fields_imm (λ a b c. Sh a b c) f.rs1_is f.rs2_is f.imm_is ∙ sym (by_3 w f.opcode_is f.f3_is)
is_made (Sw rs1 rs2 imm) w f = fields_imm (λ a b c. Sw a b c) f.rs1_is f.rs2_is f.imm_is ∙ sym (by_3 w f.opcode_is f.f3_is)
is_made (Sd rs1 rs2 imm) w f = fields_imm (λ a b c. Sd a b c) f.rs1_is f.rs2_is f.imm_is ∙ sym (by_3 w f.opcode_is f.f3_is)
is_made (Beq rs1 rs2 imm) w f = fields_imm (λ a b c. Beq a b c) f.rs1_is f.rs2_is f.imm_is ∙ sym (by_3 w f.opcode_is f.f3_is)
is_made (Bne rs1 rs2 imm) w f = fields_imm (λ a b c. Bne a b c) f.rs1_is f.rs2_is f.imm_is ∙ sym (by_3 w f.opcode_is f.f3_is)
is_made (Blt rs1 rs2 imm) w f = fields_imm (λ a b c. Blt a b c) f.rs1_is f.rs2_is f.imm_is ∙ sym (by_3 w f.opcode_is f.f3_is)
is_made (Bge rs1 rs2 imm) w f = fields_imm (λ a b c. Bge a b c) f.rs1_is f.rs2_is f.imm_is ∙ sym (by_3 w f.opcode_is f.f3_is)
is_made (Bltu rs1 rs2 imm) w f = fields_imm (λ a b c. Bltu a b c) f.rs1_is f.rs2_is f.imm_is ∙ sym (by_3 w f.opcode_is f.f3_is)
is_made (Bgeu rs1 rs2 imm) w f = fields_imm (λ a b c. Bgeu a b c) f.rs1_is f.rs2_is f.imm_is ∙ sym (by_3 w f.opcode_is f.f3_is)
is_made (Lui rd imm) w f = fields_upper (λ a c. Lui a c) f.rd_is f.imm_is ∙ sym (by_opcode w f.opcode_is)
is_made (Auipc rd imm) w f = fields_upper (λ a c. Auipc a c) f.rd_is f.imm_is ∙ sym (by_opcode w f.opcode_is)
is_made (Jal rd imm) w f = fields_upper (λ a c. Jal a c) f.rd_is f.imm_is ∙ sym (by_opcode w f.opcode_is)
is_made (Jalr rd rs1 imm) w f = fields_imm (λ a b c. Jalr a b c) f.rd_is f.rs1_is f.imm_is ∙ sym (by_3 w f.opcode_is f.f3_is)
is_made (Fence whole) w f = ap (λ a. Fence a) f.whole_is ∙ sym (by_opcode w f.opcode_is)
is_made Ecall w f = sym (by_whole w f.opcode_is f.whole_is)
is_made Ebreak w f = sym (by_whole w f.opcode_is f.whole_is)

pub one_insn : (i j : Insn) (w : ℕ) → Fits i w → Fits j w → j ≡ i
one_insn i j w f g = is_made j w g ∙ sym (is_made i w f)
