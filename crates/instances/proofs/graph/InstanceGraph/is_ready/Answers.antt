use Rattle.std.proofs.Common.{ap, sym, ◌∙◌}
use Rattle.session_model.specs.Reach.{is_ready}
use Rattle.instances.specs.Graph.{Graph}
use Rattle.instances.proofs.Readiness.{flag_is, ready_emitted}
use Rattle.instances.proofs.graph.InstanceGraph.is_ready.Goals as goal

pub returns-clause-exact : goal.returns-clause-exact
returns-clause-exact c =
    flag_is c.ready_is_tested.ensures c.self.inside.instances.rows c.self.inside.frontier.entries c.self.invariant.tied c.args.i.0 c.is_ready.result c.is_ready.ensures
    ∙ ap (λ (g : Graph). is_ready g.rows c.args.i.0) c.self.view_is

pub returns-clause-emitted : goal.returns-clause-emitted
returns-clause-emitted c = λ e.
    ready_emitted c.ready_is_tested.ensures c.args.self.now.rows c.args.i.0 (sym (returns-clause-exact c) ∙ e)
