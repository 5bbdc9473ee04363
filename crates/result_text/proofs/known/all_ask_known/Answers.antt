use Rattle.std.proofs.Common.{subst, rules}
use Rattle.std.specs.List.{All}
use Rattle.result_text.specs.Known.{AreAsked}
use Rattle.result_text.proofs.Walks.{every, more}
use Rattle.result_text.proofs.known.all_ask_known.Goals as goal

pub loop-client-preserved : goal.loop-client-preserved
loop-client-preserved c = more (All (AreAsked c.args.names.now)) c.args.wanted.now c.loop-client.client-index c.client-item.result c.loop-client-test.true c.client-item.is c.loop-client.invariant (subst (All (AreAsked c.args.names.now)) c.as_slice.ensures (c.asks_known.ensures.0 (search rules)))

pub returns : goal.returns
returns c = every (All (AreAsked c.args.names.now)) c.args.wanted.now c.loop-client.client-index c.loop-client-test.false c.loop-client.invariant
