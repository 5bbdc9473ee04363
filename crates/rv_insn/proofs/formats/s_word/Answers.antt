use Rattle.std.proofs.Common.{ap, ◌∙◌, w64}
use Rattle.std.proofs.lemmas.Int.{to_z-of_z}
use Rattle.orc_words.specs.Bits.{low_of}
use Rattle.rv_insn.proofs.Written.{written_s}
use Rattle.rv_insn.proofs.formats.s_word.Goals as goal

pub returns : goal.returns
returns c =
    let low = c.low_bits.ensures ∙ ap (low_of 32) (to_z-of_z w64 c.args.imm c.ranges.imm) in
    written_s c.with_s.result c.word_of_parts.ensures c.with_s.ensures.exact low c.requires.in_range.imm_in
