use Rattle.std.proofs.Common.{refl, subst, sym}
use Rattle.session_model.specs.declared.entry.Event.TheVariants as event
use Rattle.turn_lock.specs.Handles.{view}
use Rattle.script_model.specs.Plans.{event_of}
use Rattle.script_session.proofs.Setting.{Called, one_called, unit_called}
use Rattle.script_session.proofs.setting_up.perform.Goals as goal

pub returns-in-Dylib-clause-called : goal.returns-in-Dylib-clause-called
returns-in-Dylib-clause-called g c = (subst (λ x. Called g.U.UnitKind.meaning g.row.JMAX (view c.args.pass.now) (view c.perform.new.seat) (event_of g.U.UnitKind.meaning x) c.perform.result) (sym c.in-Dylib.is)
    (one_called g.U.UnitKind.meaning g.row.JMAX (view c.args.pass.now) (view c.perform.new.seat) (event.Dylib c.in-Dylib.name) c.perform.result refl c.perform.ensures.turned)).1

pub returns-in-Dylib-clause-stopped : goal.returns-in-Dylib-clause-stopped
returns-in-Dylib-clause-stopped g c = (subst (λ x. Called g.U.UnitKind.meaning g.row.JMAX (view c.args.pass.now) (view c.perform.new.seat) (event_of g.U.UnitKind.meaning x) c.perform.result) (sym c.in-Dylib.is)
    (one_called g.U.UnitKind.meaning g.row.JMAX (view c.args.pass.now) (view c.perform.new.seat) (event.Dylib c.in-Dylib.name) c.perform.result refl c.perform.ensures.turned)).2

pub returns-in-Order-clause-called : goal.returns-in-Order-clause-called
returns-in-Order-clause-called g c = (subst (λ x. Called g.U.UnitKind.meaning g.row.JMAX (view c.args.pass.now) (view c.perform-in-Order.new.seat) (event_of g.U.UnitKind.meaning x) c.perform-in-Order.result) (sym c.in-Order.is)
    (subst (λ o. Called g.U.UnitKind.meaning g.row.JMAX (view c.args.pass.now) (view c.perform-in-Order.new.seat) (event.SetOrder c.in-Order.dylib o) c.perform-in-Order.result) c.as_slice-order.ensures
    (one_called g.U.UnitKind.meaning g.row.JMAX (view c.args.pass.now) (view c.perform-in-Order.new.seat) (event.SetOrder c.in-Order.dylib c.as_slice-order.result.now) c.perform-in-Order.result refl c.perform-in-Order.ensures.turned))).1

pub returns-in-Order-clause-stopped : goal.returns-in-Order-clause-stopped
returns-in-Order-clause-stopped g c = (subst (λ x. Called g.U.UnitKind.meaning g.row.JMAX (view c.args.pass.now) (view c.perform-in-Order.new.seat) (event_of g.U.UnitKind.meaning x) c.perform-in-Order.result) (sym c.in-Order.is)
    (subst (λ o. Called g.U.UnitKind.meaning g.row.JMAX (view c.args.pass.now) (view c.perform-in-Order.new.seat) (event.SetOrder c.in-Order.dylib o) c.perform-in-Order.result) c.as_slice-order.ensures
    (one_called g.U.UnitKind.meaning g.row.JMAX (view c.args.pass.now) (view c.perform-in-Order.new.seat) (event.SetOrder c.in-Order.dylib c.as_slice-order.result.now) c.perform-in-Order.result refl c.perform-in-Order.ensures.turned))).2

pub returns-in-Tracker-clause-called : goal.returns-in-Tracker-clause-called
returns-in-Tracker-clause-called g c = (subst (λ x. Called g.U.UnitKind.meaning g.row.JMAX (view c.args.pass.now) (view c.perform-in-Tracker.new.seat) (event_of g.U.UnitKind.meaning x) c.perform-in-Tracker.result) (sym c.in-Tracker.is)
    (one_called g.U.UnitKind.meaning g.row.JMAX (view c.args.pass.now) (view c.perform-in-Tracker.new.seat) (event.Tracker c.in-Tracker.dylib) c.perform-in-Tracker.result refl c.perform-in-Tracker.ensures.turned)).1

pub returns-in-Tracker-clause-stopped : goal.returns-in-Tracker-clause-stopped
returns-in-Tracker-clause-stopped g c = (subst (λ x. Called g.U.UnitKind.meaning g.row.JMAX (view c.args.pass.now) (view c.perform-in-Tracker.new.seat) (event_of g.U.UnitKind.meaning x) c.perform-in-Tracker.result) (sym c.in-Tracker.is)
    (one_called g.U.UnitKind.meaning g.row.JMAX (view c.args.pass.now) (view c.perform-in-Tracker.new.seat) (event.Tracker c.in-Tracker.dylib) c.perform-in-Tracker.result refl c.perform-in-Tracker.ensures.turned)).2

pub returns-in-Define-clause-called : goal.returns-in-Define-clause-called
returns-in-Define-clause-called g c = (subst (λ x. Called g.U.UnitKind.meaning g.row.JMAX (view c.args.pass.now) (view c.perform-in-Define.new.seat) (event_of g.U.UnitKind.meaning x) c.perform-in-Define.result.answer) (sym c.in-Define.is)
    (unit_called g.U.UnitKind.meaning g.row.JMAX (view c.args.pass.now) (view c.perform-in-Define.new.seat) (λ share. event.Define c.in-Define.dylib c.in-Define.tracker share) (λ m. event.Define c.in-Define.dylib c.in-Define.tracker m) c.in-Define.unit c.perform-in-Define.result.answer _ (λ u. refl) (λ u. refl) c.perform-in-Define.ensures.turned)).1

pub returns-in-Define-clause-stopped : goal.returns-in-Define-clause-stopped
returns-in-Define-clause-stopped g c = (subst (λ x. Called g.U.UnitKind.meaning g.row.JMAX (view c.args.pass.now) (view c.perform-in-Define.new.seat) (event_of g.U.UnitKind.meaning x) c.perform-in-Define.result.answer) (sym c.in-Define.is)
    (unit_called g.U.UnitKind.meaning g.row.JMAX (view c.args.pass.now) (view c.perform-in-Define.new.seat) (λ share. event.Define c.in-Define.dylib c.in-Define.tracker share) (λ m. event.Define c.in-Define.dylib c.in-Define.tracker m) c.in-Define.unit c.perform-in-Define.result.answer _ (λ u. refl) (λ u. refl) c.perform-in-Define.ensures.turned)).2

pub returns-in-Attach-clause-called : goal.returns-in-Attach-clause-called
returns-in-Attach-clause-called g c = (subst (λ x. Called g.U.UnitKind.meaning g.row.JMAX (view c.args.pass.now) (view c.perform-in-Attach.new.seat) (event_of g.U.UnitKind.meaning x) c.perform-in-Attach.result.answer) (sym c.in-Attach.is)
    (unit_called g.U.UnitKind.meaning g.row.JMAX (view c.args.pass.now) (view c.perform-in-Attach.new.seat) (λ share. event.Attach c.in-Attach.dylib c.in-Attach.tracker share) (λ m. event.Attach c.in-Attach.dylib c.in-Attach.tracker m) c.in-Attach.unit c.perform-in-Attach.result.answer _ (λ u. refl) (λ u. refl) c.perform-in-Attach.ensures.turned)).1

pub returns-in-Attach-clause-stopped : goal.returns-in-Attach-clause-stopped
returns-in-Attach-clause-stopped g c = (subst (λ x. Called g.U.UnitKind.meaning g.row.JMAX (view c.args.pass.now) (view c.perform-in-Attach.new.seat) (event_of g.U.UnitKind.meaning x) c.perform-in-Attach.result.answer) (sym c.in-Attach.is)
    (unit_called g.U.UnitKind.meaning g.row.JMAX (view c.args.pass.now) (view c.perform-in-Attach.new.seat) (λ share. event.Attach c.in-Attach.dylib c.in-Attach.tracker share) (λ m. event.Attach c.in-Attach.dylib c.in-Attach.tracker m) c.in-Attach.unit c.perform-in-Attach.result.answer _ (λ u. refl) (λ u. refl) c.perform-in-Attach.ensures.turned)).2
