use Rattle.std.proofs.Common.{rules}
use Rattle.list_laws.proofs.Lists.{map_more}
use Rattle.session_model.specs.Change.{resolved_row, resolved_unit}
use Rattle.session_plain.specs.Meant.{unit_row}
use Rattle.session_plain.proofs.emits.resolve_rows.Goals as goal

pub loop-row-preserved : goal.loop-row-preserved
loop-row-preserved g c = map_more (resolved_row c.args.u.0 (resolved_unit (unit_row g.U.UnitKind.meaning c.args.x.now))) c.loop-row.row-index c.args.rows.now c.loop-row.rows c.row-item.result c.resolve_row.new.row c.loop-row.invariant (search rules) c.resolve_row.ensures
