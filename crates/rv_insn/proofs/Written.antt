-- A word whose immediate was written is of its format.
use Rattle.std.proofs.Common.{◌≡◌, ℕ, ◌+◌, ◌*◌, ◌/◌, ◌%◌, ◌^◌, ◌≤◌, ℤ, pos, negsuc, true, inl, inr, sym, ap, ◌∙◌, arith, lit≤}
use Rattle.orc_words.specs.Bits.{bits_at, signed_of, low_of, fits_bits}
use Rattle.orc_words.specs.Immediates.{i_immediate, s_immediate, b_immediate, u_immediate, j_immediate, with_i, with_s, with_b, with_u, with_j}
use Rattle.orc_words.proofs.Complement.{signed_of-low_of}
use Rattle.orc_words.proofs.Writers.{signed_of-same, i_immediate-with_i, s_immediate-with_s, b_immediate-with_b, u_immediate-with_u, j_immediate-with_j, bits_at-with_i, bits_at-with_s, bits_at-with_b, bits_at-with_u, bits_at-with_j}
use Rattle.rv_insn.specs.Parts.{HasParts}
use Rattle.rv_insn.specs.Rows.{IsI, IsS, IsB, IsU, IsJ}

-- ---- the low 32 bits of an integer have its lower bits
low-12 : (z : ℤ) → low_of 32 z % 2 ^ 12 ≡ low_of 12 z % 2 ^ 12
low-12 (pos k) = omega arith
low-12 (negsuc k) = omega arith

low-13 : (z : ℤ) → low_of 32 z % 2 ^ 13 ≡ low_of 13 z % 2 ^ 13
low-13 (pos k) = omega arith
low-13 (negsuc k) = omega arith

low-21 : (z : ℤ) → low_of 32 z % 2 ^ 21 ≡ low_of 21 z % 2 ^ 21
low-21 (pos k) = omega arith
low-21 (negsuc k) = omega arith

even : (z : ℤ) → low_of 1 z ≡ 0 → low_of 32 z % 2 ≡ 0
even (pos k) h = omega arith
even (negsuc k) h = omega arith

upper : (z : ℤ) → low_of 12 z ≡ 0 → low_of 32 z / 4096 * 2 ^ 12 ≡ low_of 32 z
upper (pos k) h = omega arith
upper (negsuc k) h = omega arith

back-12 : (z : ℤ) → fits_bits 12 z ≡ true → signed_of 12 (low_of 32 z) ≡ z
back-12 z h = signed_of-same 12 (low_of 32 z) (low_of 12 z) (low-12 z) ∙ signed_of-low_of 12 z (lit≤ tt) h

back-13 : (z : ℤ) → fits_bits 13 z ≡ true → signed_of 13 (low_of 32 z) ≡ z
back-13 z h = signed_of-same 13 (low_of 32 z) (low_of 13 z) (low-13 z) ∙ signed_of-low_of 13 z (lit≤ tt) h

back-21 : (z : ℤ) → fits_bits 21 z ≡ true → signed_of 21 (low_of 32 z) ≡ z
back-21 z h = signed_of-same 21 (low_of 32 z) (low_of 21 z) (low-21 z) ∙ signed_of-low_of 21 z (lit≤ tt) h

-- ---- the formats
pub written_i : {opcode rd f3 rs1 rs2 f7 base part : ℕ} {imm : ℤ} (word : ℕ) → HasParts base opcode rd f3 rs1 rs2 f7 → word ≡ with_i base part → part ≡ low_of 32 imm → fits_bits 12 imm ≡ true → IsI word opcode f3 rd rs1 imm
written_i {base = base} {part = part} {imm = imm} word has is low fits =
    record {
      opcode_is = ap (bits_at 0 7) is ∙ bits_at-with_i 0 7 base part (lit≤ tt) ∙ has.opcode_is;
      f3_is = ap (bits_at 12 3) is ∙ bits_at-with_i 12 3 base part (lit≤ tt) ∙ has.f3_is;
      rd_is = sym (ap (bits_at 7 5) is ∙ bits_at-with_i 7 5 base part (lit≤ tt) ∙ has.rd_is);
      rs1_is = sym (ap (bits_at 15 5) is ∙ bits_at-with_i 15 5 base part (lit≤ tt) ∙ has.rs1_is);
      imm_is = sym (ap i_immediate is ∙ i_immediate-with_i base part ∙ ap (signed_of 12) low ∙ back-12 imm fits);
    }

pub written_s : {opcode rd f3 rs1 rs2 f7 base part : ℕ} {imm : ℤ} (word : ℕ) → HasParts base opcode rd f3 rs1 rs2 f7 → word ≡ with_s base part → part ≡ low_of 32 imm → fits_bits 12 imm ≡ true → IsS word opcode f3 rs1 rs2 imm
written_s {base = base} {part = part} {imm = imm} word has is low fits =
    record {
      opcode_is = ap (bits_at 0 7) is ∙ bits_at-with_s 0 7 base part (inl (lit≤ tt)) ∙ has.opcode_is;
      f3_is = ap (bits_at 12 3) is ∙ bits_at-with_s 12 3 base part (inr (lit≤ tt, lit≤ tt)) ∙ has.f3_is;
      rs1_is = sym (ap (bits_at 15 5) is ∙ bits_at-with_s 15 5 base part (inr (lit≤ tt, lit≤ tt)) ∙ has.rs1_is);
      rs2_is = sym (ap (bits_at 20 5) is ∙ bits_at-with_s 20 5 base part (inr (lit≤ tt, lit≤ tt)) ∙ has.rs2_is);
      imm_is = sym (ap s_immediate is ∙ s_immediate-with_s base part ∙ ap (signed_of 12) low ∙ back-12 imm fits);
    }

pub written_b : {opcode rd f3 rs1 rs2 f7 base part : ℕ} {imm : ℤ} (word : ℕ) → HasParts base opcode rd f3 rs1 rs2 f7 → word ≡ with_b base part → part ≡ low_of 32 imm → fits_bits 13 imm ≡ true → low_of 1 imm ≡ 0 → IsB word opcode f3 rs1 rs2 imm
written_b {base = base} {part = part} {imm = imm} word has is low fits halves =
    record {
      opcode_is = ap (bits_at 0 7) is ∙ bits_at-with_b 0 7 base part (inl (lit≤ tt)) ∙ has.opcode_is;
      f3_is = ap (bits_at 12 3) is ∙ bits_at-with_b 12 3 base part (inr (lit≤ tt, lit≤ tt)) ∙ has.f3_is;
      rs1_is = sym (ap (bits_at 15 5) is ∙ bits_at-with_b 15 5 base part (inr (lit≤ tt, lit≤ tt)) ∙ has.rs1_is);
      rs2_is = sym (ap (bits_at 20 5) is ∙ bits_at-with_b 20 5 base part (inr (lit≤ tt, lit≤ tt)) ∙ has.rs2_is);
      imm_is = sym (ap b_immediate is ∙ b_immediate-with_b base part (ap (λ n. n % 2) low ∙ even imm halves) ∙ ap (signed_of 13) low ∙ back-13 imm fits);
    }

pub written_u : {opcode rd f3 rs1 rs2 f7 base part : ℕ} {imm : ℤ} (word : ℕ) → HasParts base opcode rd f3 rs1 rs2 f7 → word ≡ with_u base part → part ≡ low_of 32 imm / 4096 → fits_bits 32 imm ≡ true → low_of 12 imm ≡ 0 → IsU word opcode rd imm
written_u {base = base} {part = part} {imm = imm} word has is low fits above =
    record {
      opcode_is = ap (bits_at 0 7) is ∙ bits_at-with_u 0 7 base part (lit≤ tt) ∙ has.opcode_is;
      rd_is = sym (ap (bits_at 7 5) is ∙ bits_at-with_u 7 5 base part (lit≤ tt) ∙ has.rd_is);
      imm_is =
          sym (ap u_immediate is ∙ u_immediate-with_u base part ∙ ap (λ n. signed_of 32 (n * 2 ^ 12)) low
          ∙ ap (signed_of 32) (upper imm above) ∙ signed_of-low_of 32 imm (lit≤ tt) fits);
    }

pub written_j : {opcode rd f3 rs1 rs2 f7 base part : ℕ} {imm : ℤ} (word : ℕ) → HasParts base opcode rd f3 rs1 rs2 f7 → word ≡ with_j base part → part ≡ low_of 32 imm → fits_bits 21 imm ≡ true → low_of 1 imm ≡ 0 → IsJ word opcode rd imm
written_j {base = base} {part = part} {imm = imm} word has is low fits halves =
    record {
      opcode_is = ap (bits_at 0 7) is ∙ bits_at-with_j 0 7 base part (lit≤ tt) ∙ has.opcode_is;
      rd_is = sym (ap (bits_at 7 5) is ∙ bits_at-with_j 7 5 base part (lit≤ tt) ∙ has.rd_is);
      imm_is = sym (ap j_immediate is ∙ j_immediate-with_j base part (ap (λ n. n % 2) low ∙ even imm halves) ∙ ap (signed_of 21) low ∙ back-21 imm fits);
    }

-- six bits of an amount, in two parts
pub amount_parts : {opcode rd f3 rs1 rs2 f7 word : ℕ} → HasParts word opcode rd f3 rs1 rs2 f7 → (bits_at 20 6 word ≡ rs2 + f7 % 2 * 2 ^ 5) × (bits_at 26 6 word ≡ f7 / 2)
unfolding bits_at
amount_parts has = let a = has.rs2_is in let b = has.f7_is in (omega arith, omega arith)
