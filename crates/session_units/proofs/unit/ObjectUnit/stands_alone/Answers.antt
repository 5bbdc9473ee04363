use Rattle.std.proofs.Common.{sym, subst}
use Rattle.std.specs.Prelude.{IfOk, IsTrue, ◌↔◌}
use Rattle.session_units.specs.declared.unit.ObjectUnit.{ObjectUnit}
use Rattle.session_units.specs.Units.{StandsAlone}
use Rattle.session_units.proofs.unit.ObjectUnit.stands_alone.Goals as goal

pub returns-in-Graph : goal.returns-in-Graph
returns-in-Graph c = subst (λ (u : ObjectUnit). IfOk c.stands_alone.result (λ alone. IsTrue alone ↔ StandsAlone u c.args.live.now)) (sym c.in-Graph.is) c.stands_alone.ensures
