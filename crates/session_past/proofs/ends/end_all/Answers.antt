use Rattle.std.proofs.Common.{rules}
use Rattle.session_model.proofs.Changes.{numbered_more}
use Rattle.session_past.specs.Ends.{end_now}
use Rattle.session_plain.specs.Meant.{meant}
use Rattle.session_past.proofs.ends.end_all.Goals as goal

pub loop-k-preserved : goal.loop-k-preserved
loop-k-preserved g c = numbered_more (end_now (meant g.U.UnitKind.meaning c.args.s.now)) c.loop-k.k c.args.ends.now c.loop-k.ends c.index-ends-k.result c.end_at.new.end c.loop-k.invariant (search rules) c.in_ok-end_at.ensures
