use Rattle.std.proofs.Common.{subst}
use Rattle.std.specs.Prelude.{◌↔◌}
use Rattle.unit_fixups.specs.Sound.{Alone}
use Rattle.link_model.specs.Layout.{layout_of}
use Rattle.link_model.specs.declared.graph.LinkGraph.{LinkGraph}
use Rattle.session_units.specs.GraphUnits.{GraphAlone}
use Rattle.session_units.proofs.unit.ObjectUnit.of_graph.Goals as goal

pub returns-clause-alone : goal.returns-clause-alone
returns-clause-alone c = λ live. subst (λ (x : LinkGraph). GraphAlone c.in_ok-of_graph.field-0 live ↔ Alone x (layout_of x live)) c.in_ok-of_graph.ensures.exact (λ a. a, λ a. a)
