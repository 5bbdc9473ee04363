use Rattle.std.proofs.Common.{arith, sym, subst}
use Rattle.turn_lock.specs.Handles.{view}
use Rattle.link_worker.specs.Works.{HasWorked}
use Rattle.link_worker.proofs.Working.{TakeOf, begun, has_worked, take_stopped}
use Rattle.link_worker.proofs.work.work_one.Goals as goal

pub work_on-worked-requires : goal.work_on-worked-requires
work_on-worked-requires g c =
    let means = g.U.UnitKind.meaning in
    let v = view c.args.pass.now in
    let x = view c.perform-answer.new.seat in
    let taken = c.perform-answer.result in (
      omega arith,
      (c.perform-answer.ensures.ready, begun means g.row.JMAX v x c.requires.free c.in-Ok.reply taken.unit taken.responsibility (subst (λ a. TakeOf means g.row.JMAX v x c.requires.free a taken.unit taken.responsibility) c.in-Ok.is c.perform-answer.ensures.turned)),
    )

pub returns-in-Ok-clause-worked : goal.returns-in-Ok-clause-worked
returns-in-Ok-clause-worked g c =
    let means = g.U.UnitKind.meaning in
    let v = view c.args.pass.now in
    let x = view c.perform-answer.new.seat in
    let taken = c.perform-answer.result in
    has_worked means g.row.JMAX v x c.requires.free g.N.Notify.heard (view c.work_on-worked.new.pass) c.args.fired.now c.work_on-worked.new.fired c.in-Ok.reply taken.unit taken.responsibility c.work_on-worked.result
    (subst (λ a. TakeOf means g.row.JMAX v x c.requires.free a taken.unit taken.responsibility) c.in-Ok.is c.perform-answer.ensures.turned) c.work_on-worked.ensures.worked

pub returns-in-Err-clause-free : goal.returns-in-Err-clause-free
returns-in-Err-clause-free g c =
    let means = g.U.UnitKind.meaning in
    let v = view c.args.pass.now in
    let x = view c.perform-answer.new.seat in
    let taken = c.perform-answer.result in
    (take_stopped means g.row.JMAX v x c.requires.free g.N.Notify.heard c.args.fired.now c.in-Err.stop taken.unit taken.responsibility
    (subst (λ a. TakeOf means g.row.JMAX v x c.requires.free a taken.unit taken.responsibility) c.in-Err.is c.perform-answer.ensures.turned)).1

pub returns-in-Err-clause-worked : goal.returns-in-Err-clause-worked
returns-in-Err-clause-worked g c =
    let means = g.U.UnitKind.meaning in
    let v = view c.args.pass.now in
    let x = view c.perform-answer.new.seat in
    let taken = c.perform-answer.result in
    subst (HasWorked means g.N.Notify.heard g.row.JMAX v x c.args.fired.now c.args.fired.now) (sym c.stopped.ensures)
    (take_stopped means g.row.JMAX v x c.requires.free g.N.Notify.heard c.args.fired.now c.in-Err.stop taken.unit taken.responsibility
    (subst (λ a. TakeOf means g.row.JMAX v x c.requires.free a taken.unit taken.responsibility) c.in-Err.is c.perform-answer.ensures.turned)).0
