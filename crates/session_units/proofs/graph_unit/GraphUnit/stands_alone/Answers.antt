use Rattle.std.proofs.Common.{subst, sym, ◌∙◌}
use Rattle.unit_fixups.specs.Sound.{Alone}
use Rattle.link_model.specs.Layout.{layout_of}
use Rattle.link_model.specs.declared.graph.Layout.{Layout}
use Rattle.link_model.specs.declared.graph.LinkGraph.{LinkGraph}
use Rattle.session_units.proofs.graph_unit.GraphUnit.stands_alone.Goals as goal

pub returns : goal.returns
returns c =
    let same = c.graph-graph.ensures ∙ c.deref-2.ensures in
    let laid = c.in_ok-layout.ensures.exact in (
      λ yes. subst (λ (g : LinkGraph). Alone g (layout_of g c.args.live.now)) same (subst (λ (l : Layout). Alone c.graph-graph.result.now l) laid (c.is_alone.ensures.0 yes)),
      λ alone. c.is_alone.ensures.1 (subst (λ (l : Layout). Alone c.graph-graph.result.now l) (sym laid) (subst (λ (g : LinkGraph). Alone g (layout_of g c.args.live.now)) (sym same) alone)),
    )
