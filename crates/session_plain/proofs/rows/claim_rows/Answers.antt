use Rattle.std.proofs.Common.{rules}
use Rattle.list_laws.proofs.Lists.{map_more}
use Rattle.session_model.specs.Change.{claimed_row}
use Rattle.session_plain.proofs.rows.claim_rows.Goals as goal

pub loop-row-preserved : goal.loop-row-preserved
loop-row-preserved c = map_more (claimed_row c.args.u.0) c.loop-row.row-index c.args.rows.now c.loop-row.rows c.row-item.result c.claim_row.new.row c.loop-row.invariant (search rules) c.claim_row.ensures
