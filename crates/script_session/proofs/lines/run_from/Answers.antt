use Rattle.turn_lock.specs.Handles.{view}
use Rattle.script_session.proofs.OneLine.{not_copied, not_ran, ran}
use Rattle.script_session.proofs.lines.run_from.Goals as goal

pub returns-in-Ok-run-clause-done : goal.returns-in-Ok-run-clause-done
returns-in-Ok-run-clause-done g c given name told is = ran g.U.UnitKind.meaning g.N.Notify.heard g.row.JMAX (view c.args.pass.now) (view c.copy_memory.new.pass) given name c.args.fuel c.args.args.now c.args.address is told c.in-Ok.image c.in-Ok-run.field-0.end c.in-Ok-run.field-0.output c.in-Ok-run.ensures.ran c.in-Ok.ensures.copied

pub returns-in-Ok-clause-done : goal.returns-in-Ok-clause-done
returns-in-Ok-clause-done g c given name told is = not_ran g.U.UnitKind.meaning g.N.Notify.heard g.row.JMAX (view c.args.pass.now) (view c.copy_memory.new.pass) given name c.args.fuel c.args.args.now c.args.address is told c.in-Ok.image c.in-Ok.ensures.copied

pub returns-clause-done : goal.returns-clause-done
returns-clause-done g c given name told is = not_copied g.U.UnitKind.meaning g.N.Notify.heard g.row.JMAX (view c.args.pass.now) (view c.copy_memory.new.pass) given name c.args.fuel c.args.args.now c.args.address is told c.in-Err.stop c.in-Err.ensures.stopped
