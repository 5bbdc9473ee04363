use Rattle.std.proofs.Common.{arith}
use Rattle.parts_tests.proofs.Rising.{three_rise}
use Rattle.parts_tests.proofs.jit_dylib_tests.expected.rise.Goals as goal

pub returns-else-b-c : goal.returns-else-b-c
returns-else-b-c c = three_rise c.args.offers.now _ (omega (arith, c.in-len3.len_at_least, c.in-len3.len_below)) c.if-a-b.false c.if-b-c.false
