use Rattle.std.proofs.Common.{ℕ, ◌%◌, sym, ap, ◌∙◌, arith}
use Rattle.std.proofs.lemmas.Int.{ints}
use Rattle.reloc_table.proofs.Law.{low_six-written, low_six-subtracted}
use Rattle.reloc_table.proofs.Low.{low_of-bits, low_of-sub, cast_bits}
use Rattle.reloc_table.proofs.patches.new_number.Goals as goal

pub returns-in-LowSix : goal.returns-in-LowSix
returns-in-LowSix c =
    let bits = cast_bits c.args.v c.cast_unsigned-bits.result c.ranges.v c.cast_unsigned-bits.ensures in
    low_six-written c.args.form c.args.width c.args.old c.with_low_six.result c.cast_unsigned-bits.result c.args.v
    c.in-LowSix.is c.requires.width c.with_low_six.ensures.exact c.with_low_six.ensures.bound
    (ap (λ (x : ℕ). x % 64) bits ∙ sym (low_of-bits 6 c.args.v (omega arith) c.ranges.v))

pub returns-in-LowSixDifference : goal.returns-in-LowSixDifference
returns-in-LowSixDifference c =
    let bits = cast_bits c.args.v c.cast_unsigned-bits.result c.ranges.v c.cast_unsigned-bits.ensures in
    let low = low_of-bits 6 c.args.v (omega arith) c.ranges.v in
    let less = low_of-sub 6 c.args.old c.args.v in
    low_six-subtracted c.args.form c.args.width c.args.old c.with_low_six-in-LowSixDifference.result _ c.args.v
    c.in-LowSixDifference.is c.requires.width c.with_low_six-in-LowSixDifference.ensures.exact
    c.with_low_six-in-LowSixDifference.ensures.bound (omega (arith, ints, bits, low, less))
