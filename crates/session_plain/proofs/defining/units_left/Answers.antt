use Rattle.std.proofs.Common.{rules}
use Rattle.session_model.specs.Change.{without_replaced}
use Rattle.session_plain.specs.Meant.{unit_row}
use Rattle.session_plain.proofs.ListLemmas.{seen_numbered}
use Rattle.session_plain.proofs.defining.units_left.Goals as goal

pub loop-u-preserved : goal.loop-u-preserved
loop-u-preserved g c =
    seen_numbered (unit_row g.U.UnitKind.meaning) (without_replaced c.args.rows.now c.args.found.now) c.loop-u.u c.args.units.now c.loop-u.units c.index-units-u.result c.unit_left.new.x c.loop-u.invariant (search rules) c.in_ok-unit_left.ensures
