use Rattle.std.proofs.Common.{ap, option_map, refl, sym, ◌∙◌}
use Rattle.turn_lock.specs.Handles.{view}
use Rattle.script_session.proofs.OneLine.{unfound}
use Rattle.script_session.proofs.lines.run_name.Goals as goal

pub returns-in-Some-clause-done : goal.returns-in-Some-clause-done
returns-in-Some-clause-done g c given told same = c.run_from.ensures.done given c.args.name told (ap (option_map (λ m. m.address)) (sym (same c.args.name)) ∙ (sym c.address.ensures ∙ c.in-Some.is))

pub returns-in-None-clause-done : goal.returns-in-None-clause-done
returns-in-None-clause-done g c given told same = unfound g.U.UnitKind.meaning g.N.Notify.heard g.row.JMAX (view c.args.pass.now) (view c.args.pass.now) given c.args.name c.args.fuel c.args.args.now told (ap (option_map (λ m. m.address)) (sym (same c.args.name)) ∙ (sym c.address.ensures ∙ c.in-None.is)) refl
