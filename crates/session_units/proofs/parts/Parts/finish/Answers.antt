use Rattle.std.proofs.Common.{◌≡◌, None, length, sym, subst, ◌∙◌}
use Rattle.std.specs.Prelude.{IfOk, IfErr}
use Rattle.unit_fixups.specs.Refusal.{Refuses}
use Rattle.block_groups.specs.Groups.{live_places}
use Rattle.link_model.specs.Image.{image_of, refused_edge}
use Rattle.link_model.specs.Layout.{layout_of}
use Rattle.link_model.specs.declared.graph.LinkGraph.{LinkGraph}
use Rattle.session_units.specs.Meaning.{addresses}
use Rattle.session_units.proofs.Lawful.{live_is}
use Rattle.session_units.proofs.parts.Parts.finish.Goals as goal

pub finish_graph-requires-clause-own : goal.finish_graph-requires-clause-own
finish_graph-requires-clause-own c =
    subst (λ (g : LinkGraph). length c.args.own.now ≡ length (live_places g c.args.live.now)) (sym c.self.view_is) (c.requires.own ∙ sym (live_is c.args.self.now c.args.live.now c.requires.flags))

pub returns-clause-allowed : goal.returns-clause-allowed
returns-clause-allowed c =
    subst (λ (g : LinkGraph). IfOk c.finish_graph.result (λ made. refused_edge g (layout_of g c.args.live.now) c.args.base (addresses c.args.bound.now) ≡ None)) c.self.view_is c.finish_graph.ensures.allowed

pub returns-clause-image : goal.returns-clause-image
returns-clause-image c =
    subst (λ (g : LinkGraph). IfOk c.finish_graph.result (λ made. made.1 ≡ image_of g (layout_of g c.args.live.now) c.args.base (addresses c.args.bound.now))) c.self.view_is c.finish_graph.ensures.image

pub returns-clause-refused : goal.returns-clause-refused
returns-clause-refused c =
    subst (λ (g : LinkGraph). IfErr c.finish_graph.result (λ e. Refuses e (refused_edge g (layout_of g c.args.live.now) c.args.base (addresses c.args.bound.now)))) c.self.view_is c.finish_graph.ensures.refused
