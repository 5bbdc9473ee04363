-- A branch or a jump that is filled in within its reach is in range of its word.
use Rattle.std.proofs.Common.{◌≡◌, ℕ, true, ℤ, pos, negsuc, arith}
use Rattle.std.specs.Prelude.{◌==◌}
use Rattle.std.proofs.lemmas.Bool.Decides.{nat_tests}
use Rattle.std.proofs.lemmas.Int.{to_z-of_z}
use Rattle.link_model.specs.declared.kinds.Span.TheVariants.{Branch, Jump}
use Rattle.link_model.specs.Kinds.{in_span}
use Rattle.orc_words.specs.Bits.{fits_bits, low_of}
use Rattle.rv_insn.specs.declared.insn.Insn.{Insn}
use Rattle.rv_insn.specs.declared.insn.Insn.TheVariants.{Beq, Bne, Blt, Bge, Bltu, Bgeu, Jal}
use Rattle.rv_insn.specs.Range.{InRange, RangeB, RangeJ}
use Rattle.asm_state.specs.Reach.{reaches}
use Rattle.rv_asm.proofs.Named.{and_left, and_right}

pub ruleset casts = (to_z-of_z)

even : (v : ℤ) → (low_of 1 v == 0) ≡ true → low_of 1 v ≡ 0
even v h = grind (arith, nat_tests, h)

pub jump_fits : (d : ℤ) → in_span Jump d ≡ true → fits_bits 21 d ≡ true
jump_fits d h = and_left (fits_bits 21 d) (low_of 1 d == 0) h

wider : (d : ℤ) → fits_bits 13 d ≡ true → fits_bits 21 d ≡ true
wider (pos k) h = grind (arith, nat_tests, h)
wider (negsuc k) h = grind (arith, nat_tests, h)

pub branch_fits : (d : ℤ) → in_span Branch d ≡ true → fits_bits 21 d ≡ true
branch_fits d h = wider d (and_left (fits_bits 13 d) (low_of 1 d == 0) h)

in_branch : (rs1 rs2 : ℕ) (old imm : ℤ) → RangeB rs1 rs2 old → in_span Branch imm ≡ true → RangeB rs1 rs2 imm
in_branch rs1 rs2 old imm r h = record {
  rs1_in = r.rs1_in;
  rs2_in = r.rs2_in;
  imm_in = and_left (fits_bits 13 imm) (low_of 1 imm == 0) h;
  imm_even = even imm (and_right (fits_bits 13 imm) (low_of 1 imm == 0) h);
}

in_jump : (rd : ℕ) (old imm : ℤ) → RangeJ rd old → in_span Jump imm ≡ true → RangeJ rd imm
in_jump rd old imm r h = record {
  rd_in = r.rd_in;
  imm_in = and_left (fits_bits 21 imm) (low_of 1 imm == 0) h;
  imm_even = even imm (and_right (fits_bits 21 imm) (low_of 1 imm == 0) h);
}

pub beq_range : (insn : Insn) (rs1 rs2 : ℕ) (old imm : ℤ) → insn ≡ Beq rs1 rs2 old → InRange insn → reaches insn imm ≡ true → RangeB rs1 rs2 imm
unfolding reaches
beq_range insn rs1 rs2 old imm is range reached = in_branch rs1 rs2 old imm (rw is at range) (rw is at reached)

pub bne_range : (insn : Insn) (rs1 rs2 : ℕ) (old imm : ℤ) → insn ≡ Bne rs1 rs2 old → InRange insn → reaches insn imm ≡ true → RangeB rs1 rs2 imm
unfolding reaches
bne_range insn rs1 rs2 old imm is range reached = in_branch rs1 rs2 old imm (rw is at range) (rw is at reached)

pub blt_range : (insn : Insn) (rs1 rs2 : ℕ) (old imm : ℤ) → insn ≡ Blt rs1 rs2 old → InRange insn → reaches insn imm ≡ true → RangeB rs1 rs2 imm
unfolding reaches
blt_range insn rs1 rs2 old imm is range reached = in_branch rs1 rs2 old imm (rw is at range) (rw is at reached)

pub bge_range : (insn : Insn) (rs1 rs2 : ℕ) (old imm : ℤ) → insn ≡ Bge rs1 rs2 old → InRange insn → reaches insn imm ≡ true → RangeB rs1 rs2 imm
unfolding reaches
bge_range insn rs1 rs2 old imm is range reached = in_branch rs1 rs2 old imm (rw is at range) (rw is at reached)

pub bltu_range : (insn : Insn) (rs1 rs2 : ℕ) (old imm : ℤ) → insn ≡ Bltu rs1 rs2 old → InRange insn → reaches insn imm ≡ true → RangeB rs1 rs2 imm
unfolding reaches
bltu_range insn rs1 rs2 old imm is range reached = in_branch rs1 rs2 old imm (rw is at range) (rw is at reached)

pub bgeu_range : (insn : Insn) (rs1 rs2 : ℕ) (old imm : ℤ) → insn ≡ Bgeu rs1 rs2 old → InRange insn → reaches insn imm ≡ true → RangeB rs1 rs2 imm
unfolding reaches
bgeu_range insn rs1 rs2 old imm is range reached = in_branch rs1 rs2 old imm (rw is at range) (rw is at reached)

pub jal_range : (insn : Insn) (rd : ℕ) (old imm : ℤ) → insn ≡ Jal rd old → InRange insn → reaches insn imm ≡ true → RangeJ rd imm
unfolding reaches
jal_range insn rd old imm is range reached = in_jump rd old imm (rw is at range) (rw is at reached)
