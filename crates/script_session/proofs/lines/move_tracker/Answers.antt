use Rattle.std.proofs.Common.{refl, subst, sym}
use Rattle.session_model.specs.declared.entry.Event.TheVariants as event
use Rattle.turn_lock.specs.Handles.{view}
use Rattle.link_worker.proofs.Freeing.{free_stays}
use Rattle.script_model.specs.Asking.{One}
use Rattle.script_session.specs.Clients.{HasDone}
use Rattle.script_session.proofs.OneLine.{one_line}
use Rattle.script_session.proofs.lines.move_tracker.Goals as goal

pub returns-clause-free : goal.returns-clause-free
returns-clause-free g c = free_stays g.U.UnitKind.meaning g.row.JMAX (view c.args.pass.now) (view c.perform.new.seat) (event.MoveTracker c.args.call.from c.args.call.to) c.perform.result c.perform.ensures.turned refl c.requires.free

pub returns-clause-done : goal.returns-clause-done
returns-clause-done g c given told = subst (λ e. HasDone g.U.UnitKind.meaning g.N.Notify.heard g.row.JMAX given (One (event.MoveTracker c.args.call.from c.args.call.to)) e (view c.args.pass.now) (view c.perform.new.seat) told told) (sym c.line_end.ensures)
    (one_line g.U.UnitKind.meaning g.N.Notify.heard g.row.JMAX (view c.args.pass.now) (view c.perform.new.seat) given (event.MoveTracker c.args.call.from c.args.call.to) c.perform.result told refl refl (λ old. refl) c.perform.ensures.turned)
