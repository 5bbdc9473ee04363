use Rattle.std.proofs.Common.{subst, sym}
use Rattle.session_model.specs.declared.entry.Event.TheVariants as event
use Rattle.turn_lock.specs.Handles.{view}
use Rattle.script_model.specs.Asking.{One}
use Rattle.script_session.specs.Clients.{HasDone}
use Rattle.script_session.proofs.OneLine.{defining_line, free_defined}
use Rattle.script_session.proofs.lines.define.Goals as goal

pub returns-clause-free : goal.returns-clause-free
returns-clause-free g c = free_defined g.U.UnitKind.meaning g.row.JMAX (view c.args.pass.now) (view c.perform.new.seat) c.args.call.dylib c.args.call.tracker c.args.call.unit c.perform.result.answer _ c.requires.free c.perform.ensures.turned

pub returns-clause-done : goal.returns-clause-done
returns-clause-done g c given told = subst (λ e. HasDone g.U.UnitKind.meaning g.N.Notify.heard g.row.JMAX given (One (event.Define c.args.call.dylib c.args.call.tracker (g.U.UnitKind.meaning c.args.call.unit))) e (view c.args.pass.now) (view c.perform.new.seat) told told) (sym c.line_end.ensures)
    (defining_line g.U.UnitKind.meaning g.N.Notify.heard g.row.JMAX (view c.args.pass.now) (view c.perform.new.seat) given c.args.call.dylib c.args.call.tracker c.args.call.unit c.perform.result.answer told _ c.perform.ensures.turned)
