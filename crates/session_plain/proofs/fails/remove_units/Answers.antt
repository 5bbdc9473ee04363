use Rattle.std.proofs.Common.{rules}
use Rattle.session_plain.specs.Meant.{unit_row}
use Rattle.session_model.specs.Change.{removed_unit}
use Rattle.session_plain.proofs.ListLemmas.{seen_more}
use Rattle.session_plain.proofs.fails.remove_units.Goals as goal

pub loop-x-preserved : goal.loop-x-preserved
loop-x-preserved g c = seen_more (unit_row g.U.UnitKind.meaning) (removed_unit c.args.t.0) c.loop-x.x-index c.args.units.now c.loop-x.units c.x-item.result c.remove_unit.new.x c.loop-x.invariant (search rules) (search (rules, c.remove_unit.ensures))
