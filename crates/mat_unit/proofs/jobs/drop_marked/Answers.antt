-- The closure asks for the mark of the job's unit.
use Rattle.std.proofs.Common.{rules, not}
use Rattle.std.proofs.lemmas.Fn.{filter_same}
use Rattle.session_model.specs.Change.{job_unit}
use Rattle.mat_unit.specs.Kept.{is_marked}
use Rattle.mat_unit.proofs.jobs.drop_marked.Goals as goal

pub returns-clause-jobs : goal.returns-clause-jobs
returns-clause-jobs c =
    filter_same _ (λ j. not (is_marked c.args.marks.now (job_unit j))) _ (λ j b f called. search rules) _ _ c.retain.ensures.filtered
