use Rattle.std.proofs.Common.{arith, sym, ap, ◌∙◌, w64, pos, ◌≡◌}
use Rattle.std.proofs.lemmas.Int.{to_z-of_z}
use Rattle.orc_words.specs.Bits.{bits_at}
use Rattle.rv_insn.proofs.Written.{amount_parts}
use Rattle.rv_insn.proofs.formats.shift_word.Goals as goal

pub returns : goal.returns
returns c =
    let has = c.word_of_parts.ensures in
    let split = amount_parts has in
    let low : bits_at 20 6 c.word_of_parts.result ≡ c.amount_bits-amount.result = omega (arith, split.0, c.amount_bits-amount.ensures.small) in
    let high : bits_at 26 6 c.word_of_parts.result ≡ c.args.f6 = omega (arith, split.1, c.amount_bits-amount.ensures.small) in
    record {
      opcode_is = has.opcode_is;
      f3_is = has.f3_is;
      f6_is = high;
      rd_is = sym has.rd_is;
      rs1_is = sym has.rs1_is;
      amount_is = sym (ap pos low ∙ c.amount_bits-amount.ensures.same ∙ to_z-of_z w64 c.args.amount c.ranges.amount);
    }
