use Rattle.std.proofs.Common.{map, subst}
use Rattle.std.specs.Prelude.{OnOk}
use Rattle.turn_lock.specs.Handles.{view}
use Rattle.linked_program.specs.SetUps.{IsAt, beginning}
use Rattle.linked_program.proofs.SetUpAll.{set_up_behind}
use Rattle.linked_program.proofs.setting_up.set_up.Goals as goal

pub returns-in-Ok-clause-set_up : goal.returns-in-Ok-clause-set_up
returns-in-Ok-clause-set_up g c =
    let means = g.U.UnitKind.meaning in
    let main = c.args.main in
    let at : IsAt means g.row.JMAX (beginning main) (view c.begin.new.pass) = subst (λ r. OnOk r (IsAt means g.row.JMAX (beginning main) (view c.begin.new.pass))) c.in-Ok.is c.begin.ensures.made in
    set_up_behind means g.row.JMAX main (map means c.args.units.items) (view c.define_all.new.pass) c.define_all.result (c.define_all.ensures.defined (beginning main) at)
