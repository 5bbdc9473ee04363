use Rattle.std.proofs.Common.{arith}
use Rattle.session_check.proofs.KnownLemmas.{high_power, power_test}
use Rattle.session_check.proofs.known.is_power.Goals as goal

pub returns-then-align : goal.returns-then-align
returns-then-align c = high_power c.args.align (omega arith) (omega arith)

pub returns : goal.returns
returns c = power_test c.args.align c.next_power_of_two.result c.next_power_of_two.ensures.power c.next_power_of_two.ensures.lower_bound c.next_power_of_two.ensures.upper_bound
