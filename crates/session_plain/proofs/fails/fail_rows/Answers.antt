use Rattle.std.proofs.Common.{rules}
use Rattle.session_model.proofs.Changes.{numbered_more}
use Rattle.session_plain.specs.Rows.{marked_row}
use Rattle.session_plain.proofs.fails.fail_rows.Goals as goal

pub loop-k-preserved : goal.loop-k-preserved
loop-k-preserved c = numbered_more (marked_row c.args.unready.now c.args.reaching.now) c.loop-k.k c.args.rows.now c.loop-k.rows c.index-rows-k.result c.fail_row.new.row c.loop-k.invariant (search rules) (search (rules, c.fail_row.ensures, c.both_marked.ensures))
