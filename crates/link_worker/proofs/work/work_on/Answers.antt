use Rattle.std.proofs.Common.{Some, sym, subst}
use Rattle.turn_lock.specs.Handles.{view}
use Rattle.link_worker.specs.Works.{WorksOn}
use Rattle.link_worker.proofs.Working.{job_ended}
use Rattle.link_worker.proofs.work.work_on.Goals as goal

pub returns-clause-worked : goal.returns-clause-worked
returns-clause-worked g c =
    let means = g.U.UnitKind.meaning in
    let x = view c.args.pass.now in
    let w = view c.carry.new.pass in
    let from = c.args.fired.now in
    let to = c.carry.new.fired in
    subst (λ o. WorksOn means g.N.Notify.heard g.row.JMAX x w from to c.args.reply o c.by.result) (sym c.in-Some.is)
    (subst (WorksOn means g.N.Notify.heard g.row.JMAX x w from to c.args.reply (Some c.in-Some.taken)) (sym c.by.ensures)
    (c.in-Some-job_of.job, c.in-Some-job_of.first, c.in-Some-job_of.ensures.job, job_ended means g.N.Notify.heard g.row.JMAX x w from to c.in-Some-job_of.job c.in-Some-job_of.first c.carry.result c.carry.ensures.carried c.carry.ensures.stopped))
