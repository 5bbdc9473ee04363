use Rattle.std.proofs.Math.Facts.{Fits-lt-pow}
use Rattle.rv_hart.proofs.Words.{nonzero}
use Rattle.rv_hart.proofs.arithmetic.remainder_signed.Goals as goal

pub wrapping_rem-requires : goal.wrapping_rem-requires
wrapping_rem-requires c =
    let y = c.signed-else-b-eq0 in nonzero c.args.b y.result y.ensures (Fits-lt-pow c.ranges.b) c.if-b-eq0.false y.type_inv
