use Rattle.std.proofs.Common.{◌≡◌, ◌++◌, false, refl, subst, sym}
use Rattle.turn_lock.specs.Handles.{view}
use Rattle.script_model.specs.Plans.{line_of}
use Rattle.script_model.specs.Asking.{One, PeekAt, Run}
use Rattle.session_model.specs.declared.entry.Event.TheVariants as event
use Rattle.script_model.specs.Lines.{given_by}
use Rattle.script_session.specs.Clients.{HasDone}
use Rattle.script_session.specs.Lines.{AreSame, is_stopped}
use Rattle.script_session.proofs.Knowing.{known_after}
use Rattle.script_session.proofs.lines.do_line.Goals as goal

pub returns-in-Define-clause-done : goal.returns-in-Define-clause-done
returns-in-Define-clause-done g c given same = subst (λ x. HasDone g.U.UnitKind.meaning g.N.Notify.heard g.row.JMAX given (line_of g.U.UnitKind.meaning x) c.without_note.result.end (view c.args.pass.now) (view c.define.new.pass) c.args.fired.now c.args.fired.now) (sym c.in-Define.is)
    (subst (λ e. HasDone g.U.UnitKind.meaning g.N.Notify.heard g.row.JMAX given (One (event.Define c.in-Define.dylib c.in-Define.tracker (g.U.UnitKind.meaning c.in-Define.unit))) e (view c.args.pass.now) (view c.define.new.pass) c.args.fired.now c.args.fired.now) (sym c.without_note.ensures.end) (c.define.ensures.done given c.args.fired.now))

pub returns-in-Define-clause-given : goal.returns-in-Define-clause-given
returns-in-Define-clause-given g c given same isnt = subst (λ x. AreSame c.args.given.now (given_by (line_of g.U.UnitKind.meaning x) c.without_note.result.end ++ given)) (sym c.in-Define.is) same

pub returns-in-LookUp-clause-done : goal.returns-in-LookUp-clause-done
returns-in-LookUp-clause-done g c given same = subst (λ x. HasDone g.U.UnitKind.meaning g.N.Notify.heard g.row.JMAX given (line_of g.U.UnitKind.meaning x) c.look_up.result.end (view c.args.pass.now) (view c.look_up.new.pass) c.args.fired.now c.look_up.new.fired) (sym c.in-LookUp.is) (c.look_up.ensures.done given)

pub returns-in-LookUp-clause-given : goal.returns-in-LookUp-clause-given
returns-in-LookUp-clause-given g c given same isnt = subst (λ x. AreSame c.look_up.new.given (given_by (line_of g.U.UnitKind.meaning x) c.look_up.result.end ++ given)) (sym c.in-LookUp.is) (c.look_up.ensures.given given same isnt)

pub returns-in-Move-clause-done : goal.returns-in-Move-clause-done
returns-in-Move-clause-done g c given same = subst (λ x. HasDone g.U.UnitKind.meaning g.N.Notify.heard g.row.JMAX given (line_of g.U.UnitKind.meaning x) c.without_note-in-Move.result.end (view c.args.pass.now) (view c.move_tracker.new.pass) c.args.fired.now c.args.fired.now) (sym c.in-Move.is)
    (subst (λ e. HasDone g.U.UnitKind.meaning g.N.Notify.heard g.row.JMAX given (One (event.MoveTracker c.in-Move.from c.in-Move.to)) e (view c.args.pass.now) (view c.move_tracker.new.pass) c.args.fired.now c.args.fired.now) (sym c.without_note-in-Move.ensures.end) (c.move_tracker.ensures.done given c.args.fired.now))

pub returns-in-Move-clause-given : goal.returns-in-Move-clause-given
returns-in-Move-clause-given g c given same isnt = subst (λ x. AreSame c.args.given.now (given_by (line_of g.U.UnitKind.meaning x) c.without_note-in-Move.result.end ++ given)) (sym c.in-Move.is) same

pub returns-in-Remove-clause-done : goal.returns-in-Remove-clause-done
returns-in-Remove-clause-done g c given same = subst (λ x. HasDone g.U.UnitKind.meaning g.N.Notify.heard g.row.JMAX given (line_of g.U.UnitKind.meaning x) c.without_note-in-Remove.result.end (view c.args.pass.now) (view c.remove.new.pass) c.args.fired.now c.remove.new.fired) (sym c.in-Remove.is)
    (subst (λ e. HasDone g.U.UnitKind.meaning g.N.Notify.heard g.row.JMAX given (One (event.Remove c.in-Remove.tracker)) e (view c.args.pass.now) (view c.remove.new.pass) c.args.fired.now c.remove.new.fired) (sym c.without_note-in-Remove.ensures.end) (c.remove.ensures.done given))

pub returns-in-Remove-clause-given : goal.returns-in-Remove-clause-given
returns-in-Remove-clause-given g c given same isnt = subst (λ x. AreSame c.args.given.now (given_by (line_of g.U.UnitKind.meaning x) c.without_note-in-Remove.result.end ++ given)) (sym c.in-Remove.is) same

pub returns-in-Run-clause-done : goal.returns-in-Run-clause-done
returns-in-Run-clause-done g c given same = subst (λ x. HasDone g.U.UnitKind.meaning g.N.Notify.heard g.row.JMAX given (line_of g.U.UnitKind.meaning x) c.without_note-in-Run.result.end (view c.args.pass.now) (view c.run_name.new.pass) c.args.fired.now c.args.fired.now) (sym c.in-Run.is)
    (subst (λ e. HasDone g.U.UnitKind.meaning g.N.Notify.heard g.row.JMAX given (Run c.in-Run.name c.in-Run.fuel c.in-Run.args) e (view c.args.pass.now) (view c.run_name.new.pass) c.args.fired.now c.args.fired.now) (sym c.without_note-in-Run.ensures.end) (subst (λ args. HasDone g.U.UnitKind.meaning g.N.Notify.heard g.row.JMAX given (Run c.in-Run.name c.in-Run.fuel args) c.run_name.result (view c.args.pass.now) (view c.run_name.new.pass) c.args.fired.now c.args.fired.now) c.as_slice-args.ensures (c.run_name.ensures.done given c.args.fired.now same)))

pub returns-in-Run-clause-given : goal.returns-in-Run-clause-given
returns-in-Run-clause-given g c given same isnt = subst (λ x. AreSame c.args.given.now (given_by (line_of g.U.UnitKind.meaning x) c.without_note-in-Run.result.end ++ given)) (sym c.in-Run.is) same

pub returns-in-Define-clause-known : goal.returns-in-Define-clause-known
returns-in-Define-clause-known g c isnt = known_after g.U.UnitKind.meaning g.N.Notify.heard g.row.JMAX c.args.given.now (One (event.Define c.in-Define.dylib c.in-Define.tracker (g.U.UnitKind.meaning c.in-Define.unit))) c.define.result (view c.args.pass.now) (view c.define.new.pass) c.args.fired.now c.args.fired.now (subst (λ e. is_stopped e ≡ false) c.without_note.ensures.end isnt) (c.define.ensures.done c.args.given.now c.args.fired.now) c.requires.known

pub returns-in-Move-clause-known : goal.returns-in-Move-clause-known
returns-in-Move-clause-known g c isnt = known_after g.U.UnitKind.meaning g.N.Notify.heard g.row.JMAX c.args.given.now (One (event.MoveTracker c.in-Move.from c.in-Move.to)) c.move_tracker.result (view c.args.pass.now) (view c.move_tracker.new.pass) c.args.fired.now c.args.fired.now (subst (λ e. is_stopped e ≡ false) c.without_note-in-Move.ensures.end isnt) (c.move_tracker.ensures.done c.args.given.now c.args.fired.now) c.requires.known

pub returns-in-Remove-clause-known : goal.returns-in-Remove-clause-known
returns-in-Remove-clause-known g c isnt = known_after g.U.UnitKind.meaning g.N.Notify.heard g.row.JMAX c.args.given.now (One (event.Remove c.in-Remove.tracker)) c.remove.result (view c.args.pass.now) (view c.remove.new.pass) c.args.fired.now c.remove.new.fired (subst (λ e. is_stopped e ≡ false) c.without_note-in-Remove.ensures.end isnt) (c.remove.ensures.done c.args.given.now) c.requires.known

pub returns-in-Run-clause-known : goal.returns-in-Run-clause-known
returns-in-Run-clause-known g c isnt = known_after g.U.UnitKind.meaning g.N.Notify.heard g.row.JMAX c.args.given.now (Run c.in-Run.name c.in-Run.fuel c.as_slice-args.result.now) c.run_name.result (view c.args.pass.now) (view c.run_name.new.pass) c.args.fired.now c.args.fired.now (subst (λ e. is_stopped e ≡ false) c.without_note-in-Run.ensures.end isnt) (c.run_name.ensures.done c.args.given.now c.args.fired.now (λ name. refl)) c.requires.known

pub returns-in-Peek-clause-done : goal.returns-in-Peek-clause-done
returns-in-Peek-clause-done g c given same = subst (λ x. HasDone g.U.UnitKind.meaning g.N.Notify.heard g.row.JMAX given (line_of g.U.UnitKind.meaning x) c.without_note-in-Peek.result.end (view c.args.pass.now) (view c.peek_name.new.pass) c.args.fired.now c.args.fired.now) (sym c.in-Peek.is)
    (subst (λ e. HasDone g.U.UnitKind.meaning g.N.Notify.heard g.row.JMAX given (PeekAt c.in-Peek.name) e (view c.args.pass.now) (view c.peek_name.new.pass) c.args.fired.now c.args.fired.now) (sym c.without_note-in-Peek.ensures.end) (c.peek_name.ensures.done given c.args.fired.now same))

pub returns-in-Peek-clause-given : goal.returns-in-Peek-clause-given
returns-in-Peek-clause-given g c given same isnt = subst (λ x. AreSame c.args.given.now (given_by (line_of g.U.UnitKind.meaning x) c.without_note-in-Peek.result.end ++ given)) (sym c.in-Peek.is) same

pub returns-in-Peek-clause-known : goal.returns-in-Peek-clause-known
returns-in-Peek-clause-known g c isnt = known_after g.U.UnitKind.meaning g.N.Notify.heard g.row.JMAX c.args.given.now (PeekAt c.in-Peek.name) c.peek_name.result (view c.args.pass.now) (view c.peek_name.new.pass) c.args.fired.now c.args.fired.now (subst (λ e. is_stopped e ≡ false) c.without_note-in-Peek.ensures.end isnt) (c.peek_name.ensures.done c.args.given.now c.args.fired.now (λ name. refl)) c.requires.known
