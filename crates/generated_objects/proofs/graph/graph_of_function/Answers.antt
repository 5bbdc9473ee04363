use Rattle.std.proofs.Common.{◌≡◌}
use Rattle.link_model.specs.Sound.{IsSized, OffersDiffer, Sound}
use Rattle.link_model.specs.declared.graph.LinkGraph.{LinkGraph}
use Rattle.generated_objects.specs.Graphs.{graph_calling}
use Rattle.generated_objects.proofs.Graphs.{graph_offers, graph_sized, graph_sound, if_ok}
use Rattle.generated_objects.proofs.graph.graph_of_function.Goals as goal

pub returns-clause-sound : goal.returns-clause-sound
returns-clause-sound c = if_ok (λ (g : LinkGraph). g ≡ graph_calling c.next.result c.args.k) (λ g. Sound g) (graph_sound c.next.result c.args.k) c.graph_calling.result c.graph_calling.ensures

pub returns-clause-sized : goal.returns-clause-sized
returns-clause-sized c = if_ok (λ (g : LinkGraph). g ≡ graph_calling c.next.result c.args.k) (λ g. IsSized g) (graph_sized c.next.result c.args.k) c.graph_calling.result c.graph_calling.ensures

pub returns-clause-offers : goal.returns-clause-offers
returns-clause-offers c = if_ok (λ (g : LinkGraph). g ≡ graph_calling c.next.result c.args.k) (λ g. OffersDiffer g) (graph_offers c.next.result c.args.k) c.graph_calling.result c.graph_calling.ensures
