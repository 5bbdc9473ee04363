use Rattle.std.proofs.Common.{refl, subst, sym}
use Rattle.session_model.specs.declared.entry.Event.TheVariants as event
use Rattle.turn_lock.specs.Handles.{view}
use Rattle.link_worker.proofs.Freeing.{free_stays}
use Rattle.script_model.specs.Asking.{One}
use Rattle.script_session.specs.Clients.{HasDone}
use Rattle.script_session.proofs.OneLine.{telling_line}
use Rattle.script_session.proofs.lines.remove.Goals as goal

pub returns-clause-free : goal.returns-clause-free
returns-clause-free g c = let t = c.perform-answer.ensures.turned in
    free_stays g.U.UnitKind.meaning g.row.JMAX (view c.args.pass.now) (view c.perform-answer.new.seat) (event.Remove c.args.call.tracker) c.perform-answer.result.answer (record { old = t.old; new = t.new; passed = t.passed; did = t.did.tells.performs }) refl c.requires.free

pub returns-clause-done : goal.returns-clause-done
returns-clause-done g c given = let t = c.perform-answer.ensures.turned in
    subst (λ e. HasDone g.U.UnitKind.meaning g.N.Notify.heard g.row.JMAX given (One (event.Remove c.args.call.tracker)) e (view c.args.pass.now) (view c.perform-answer.new.seat) c.args.fired.now c.fire_all.new.done) (sym c.line_end.ensures)
    (telling_line g.U.UnitKind.meaning g.N.Notify.heard g.row.JMAX (view c.args.pass.now) (view c.perform-answer.new.seat) given (event.Remove c.args.call.tracker) c.perform-answer.result.answer c.perform-answer.result.fires c.args.fired.now c.fire_all.new.done refl (λ h. refl)
    (record { old = t.old; new = t.new; passed = t.passed; did = t.did.tells }) c.fire_all.ensures)
