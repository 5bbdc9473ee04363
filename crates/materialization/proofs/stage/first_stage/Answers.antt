use Rattle.std.proofs.Common.{sym, ap, ◌∙◌}
use Rattle.materialization.specs.Stages.{first}
use Rattle.materialization.proofs.stage.first_stage.Goals as goal

pub returns-in-Start : goal.returns-in-Start
returns-in-Start c = c.start_stage.ensures c.in-Start.field-0 ∙ ap (λ r. first r c.args.alias c.args.needs_memory) (sym c.in-Start.is)

pub returns-in-Finish : goal.returns-in-Finish
returns-in-Finish c = c.finish_stage.ensures c.in-Finish.field-0 c.args.needs_memory ∙ ap (λ r. first r c.args.alias c.args.needs_memory) (sym c.in-Finish.is)
