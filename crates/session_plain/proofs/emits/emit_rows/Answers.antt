use Rattle.std.proofs.Common.{rules}
use Rattle.session_model.proofs.Changes.{numbered_more}
use Rattle.session_model.specs.Change.{emitted_row}
use Rattle.session_plain.proofs.emits.emit_rows.Goals as goal

pub loop-k-preserved : goal.loop-k-preserved
loop-k-preserved c = numbered_more (emitted_row c.args.u.0 c.args.groups.now) c.loop-k.k c.args.rows.now c.loop-k.rows c.index-rows-k.result c.emit_row.new.row c.loop-k.invariant (search rules) c.in_ok-emit_row.ensures
