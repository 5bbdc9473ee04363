use Rattle.std.proofs.Common.{◌≡◌, None, subst}
use Rattle.std.specs.Prelude.{IfOk, IfErr}
use Rattle.unit_fixups.specs.Refusal.{Refuses}
use Rattle.link_model.specs.Image.{image_of, refused_edge}
use Rattle.link_model.specs.Layout.{layout_of}
use Rattle.link_model.specs.declared.graph.LinkGraph.{LinkGraph}
use Rattle.session_units.specs.Meaning.{addresses}
use Rattle.session_units.proofs.graph_unit.GraphUnit.finish.Goals as goal

pub returns-clause-allowed : goal.returns-clause-allowed
returns-clause-allowed c =
    subst (λ (g : LinkGraph). IfOk c.finish.result (λ made. refused_edge g (layout_of g c.args.live.now) c.args.base (addresses c.args.bound.now) ≡ None)) c.deref.ensures c.finish.ensures.allowed

pub returns-clause-image : goal.returns-clause-image
returns-clause-image c =
    subst (λ (g : LinkGraph). IfOk c.finish.result (λ made. made.1 ≡ image_of g (layout_of g c.args.live.now) c.args.base (addresses c.args.bound.now))) c.deref.ensures c.finish.ensures.image

pub returns-clause-refused : goal.returns-clause-refused
returns-clause-refused c =
    subst (λ (g : LinkGraph). IfErr c.finish.result (λ e. Refuses e (refused_edge g (layout_of g c.args.live.now) c.args.base (addresses c.args.bound.now)))) c.deref.ensures c.finish.ensures.refused
