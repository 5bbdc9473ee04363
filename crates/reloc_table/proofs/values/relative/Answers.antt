use Rattle.std.proofs.Common.{◌+◌, ◌-◌, ◌%◌, pos, ◌+ℤ◌, ◌-ℤ◌, ◌^◌}
use Rattle.std.proofs.Math.Nat.{mod-lt}
use Rattle.std.proofs.lemmas.Nat.{pow_pos}
use Rattle.reloc_table.proofs.Low.{cast_bits, sum_bits, less_bits, wrapped-cast}
use Rattle.reloc_table.proofs.values.relative.Goals as goal

pub returns : goal.returns
returns c =
    let bits = cast_bits c.args.a c.cast_unsigned.result c.ranges.a c.cast_unsigned.ensures in
    let sum = sum_bits c.args.s c.cast_unsigned.result c.args.a c.ranges.a bits in
    wrapped-cast c.cast_signed.result _ (pos c.args.s +ℤ c.args.a -ℤ pos c.args.p)
    (mod-lt ((c.args.s + c.cast_unsigned.result) % 2 ^ 64 + (2 ^ 64 - c.args.p)) (pow_pos 64)) c.cast_signed.ensures
    (less_bits _ c.args.p (pos c.args.s +ℤ c.args.a) c.ranges.p.fits sum)
