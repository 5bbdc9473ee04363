use Rattle.std.proofs.Common.{◌+◌, pos, ◌+ℤ◌}
use Rattle.std.proofs.Math.Nat.{mod-lt}
use Rattle.std.proofs.lemmas.Nat.{pow_pos}
use Rattle.reloc_table.proofs.Low.{cast_bits, sum_bits, wrapped-cast}
use Rattle.reloc_table.proofs.values.absolute.Goals as goal

pub returns : goal.returns
returns c =
    let bits = cast_bits c.args.a c.cast_unsigned.result c.ranges.a c.cast_unsigned.ensures in
    wrapped-cast c.cast_signed.result _ (pos c.args.s +ℤ c.args.a) (mod-lt (c.args.s + c.cast_unsigned.result) (pow_pos 64)) c.cast_signed.ensures
    (sum_bits c.args.s c.cast_unsigned.result c.args.a c.ranges.a bits)
