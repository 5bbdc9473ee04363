use Rattle.std.proofs.Common.{subst}
use Rattle.turn_lock.specs.Handles.{view}
use Rattle.link_worker.specs.Does.{Does}
use Rattle.link_worker.specs.Works.{Jobs}
use Rattle.link_worker.proofs.Assisted.{assisted, assisted_telling}
use Rattle.link_worker.proofs.jobs.do_jobs.Goals as goal

pub returns-clause-jobs : goal.returns-clause-jobs
returns-clause-jobs g c = assisted g.U.UnitKind.meaning _ g.row.JMAX (view c.args.pass.now) (view c.assist-worked.new.pass) _ _ c.assist-worked.result c.assist-worked.ensures.assisted

pub returns-clause-told : goal.returns-clause-told
returns-clause-told g c = subst (λ first. Does g.U.UnitKind.meaning g.N.Notify.heard (view c.args.pass.now) (view c.assist-worked.new.pass) first c.assist-worked.new.fired Jobs) c.new-fired.ensures
    (assisted_telling g.U.UnitKind.meaning _ g.row.JMAX (view c.args.pass.now) (view c.assist-worked.new.pass) _ _ c.assist-worked.result c.assist-worked.ensures.assisted)
