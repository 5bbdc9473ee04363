use Rattle.std.proofs.Common.{rules, map}
use Rattle.list_laws.proofs.Lists.{map_more}
use Rattle.session_plain.specs.Meant.{unit_row}
use Rattle.session_plain.specs.Rows.{hidden_row}
use Rattle.session_plain.proofs.fails.hide_rows.Goals as goal

pub loop-row-preserved : goal.loop-row-preserved
loop-row-preserved g c = map_more (hidden_row (map (unit_row g.U.UnitKind.meaning) c.args.units.now) c.args.t.0) c.loop-row.row-index c.args.rows.now c.loop-row.rows c.row-item.result c.hide_row.new.row c.loop-row.invariant (search rules) (search (rules, c.hide_row.ensures, c.tracked.ensures))
