use Rattle.std.proofs.Common.{rules}
use Rattle.result_text.specs.Known.{KnownEnd}
use Rattle.result_text.proofs.Walks.{every, more}
use Rattle.result_text.proofs.known.ends_known.Goals as goal

pub loop-end-preserved : goal.loop-end-preserved
loop-end-preserved c = more (KnownEnd c.args.names.now) c.args.ends.now c.loop-end.end-index c.end-item.result c.loop-end-test.true c.end-item.is c.loop-end.invariant (c.knows_end.ensures.0 (search rules))

pub returns : goal.returns
returns c = every (KnownEnd c.args.names.now) c.args.ends.now c.loop-end.end-index c.loop-end-test.false c.loop-end.invariant
