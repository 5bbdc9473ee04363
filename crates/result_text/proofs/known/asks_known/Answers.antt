use Rattle.std.proofs.Common.{subst, rules}
use Rattle.result_text.specs.Known.{AreAsked}
use Rattle.result_text.proofs.Walks.{every, more}
use Rattle.result_text.proofs.known.asks_known.Goals as goal

pub loop-line-preserved : goal.loop-line-preserved
loop-line-preserved c = more (AreAsked c.args.names.now) c.args.wanted.now c.loop-line.line-index c.line-item.result c.loop-line-test.true c.line-item.is c.loop-line.invariant (subst (AreAsked c.args.names.now) c.as_slice.ensures (c.are_given.ensures.0 (search rules)))

pub returns : goal.returns
returns c = every (AreAsked c.args.names.now) c.args.wanted.now c.loop-line.line-index c.loop-line-test.false c.loop-line.invariant
