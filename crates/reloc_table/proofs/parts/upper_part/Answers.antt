use Rattle.std.proofs.Common.{◌+◌, ◌/◌, ◌%◌, ◌^◌, arith}
use Rattle.std.proofs.lemmas.Nat.{and_mask}
use Rattle.orc_words.specs.Bits.{bits_at}
use Rattle.link_model.specs.Kinds.{up_of}
use Rattle.reloc_table.proofs.Low.{low_of-rounded, cast_bits}
use Rattle.reloc_table.proofs.parts.upper_part.Goals as goal

pub returns-clause-exact : goal.returns-clause-exact
unfolding up_of bits_at
returns-clause-exact c =
    let bits = cast_bits c.args.v c.cast_unsigned.result c.ranges.v c.cast_unsigned.ensures in
    let rounded = low_of-rounded c.args.v c.ranges.v in
    let mask = and_mask ((c.cast_unsigned.result + 2048) % 2 ^ 64 / 4096) 20 in
    omega (arith, bits, rounded, mask)
