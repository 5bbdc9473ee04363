use Rattle.std.proofs.Common.{subst, sym}
use Rattle.turn_lock.specs.Handles.{view}
use Rattle.linked_program.specs.SetUps.{HasDefined}
use Rattle.linked_program.proofs.SetUp.{DefineOf, define_of_turn, define_stopped, defined_as}
use Rattle.linked_program.proofs.setting_up.define.Goals as goal

pub returns-in-Ok-clause-made : goal.returns-in-Ok-clause-made
returns-in-Ok-clause-made g c =
    let means = g.U.UnitKind.meaning in
    let v = view c.args.pass.now in
    let w = view c.perform-answer.new.seat in
    let unit = c.args.unit in
    let turn : DefineOf means g.row.JMAX v w unit c.perform-answer.result.answer = define_of_turn means g.row.JMAX v w unit c.perform-answer.result.answer _ c.perform-answer.ensures.turned in
    λ evs at. subst (HasDefined means g.row.JMAX evs (means unit) w) (sym c.is_defined.ensures)
    (defined_as means g.row.JMAX v w evs unit c.in-Ok.reply at (subst (DefineOf means g.row.JMAX v w unit) c.in-Ok.is turn))

pub returns-in-Err-clause-stopped : goal.returns-in-Err-clause-stopped
returns-in-Err-clause-stopped g c =
    let means = g.U.UnitKind.meaning in
    let v = view c.args.pass.now in
    let w = view c.perform-answer.new.seat in
    let unit = c.args.unit in
    let turn : DefineOf means g.row.JMAX v w unit c.perform-answer.result.answer = define_of_turn means g.row.JMAX v w unit c.perform-answer.result.answer _ c.perform-answer.ensures.turned in
    λ evs at. define_stopped means g.row.JMAX v w evs unit c.in-Err.stop at (subst (DefineOf means g.row.JMAX v w unit) c.in-Err.is turn)
