use Rattle.std.proofs.Common.{rules}
use Rattle.session_model.proofs.Changes.{numbered_more}
use Rattle.session_model.specs.Change.{unreplaced_row}
use Rattle.session_plain.proofs.defining.hide_replaced.Goals as goal

pub loop-k-preserved : goal.loop-k-preserved
loop-k-preserved c = numbered_more (unreplaced_row c.args.found.now) c.loop-k.k c.args.rows.now c.loop-k.rows c.index-rows-k.result c.hide_row.new.row c.loop-k.invariant (search rules) (search (rules, c.hide_row.ensures, c.replaced.ensures))
