use Rattle.std.proofs.Common.{drop}
use Rattle.result_text.proofs.Given.{no_more}
use Rattle.result_text.proofs.lookups.put_given.Goals as goal

pub returns-in_default : goal.returns-in_default
returns-in_default c = no_more c.args.names.now (drop c.loop-k.k c.args.wanted.now) c.args.matches.now c.loop-k.k c.loop-k.out.items _ c.in_default.ensures.lookup.3 c.loop-k.invariant
