use Rattle.std.proofs.Common.{ap, sym, subst, ◌∙◌, [], ◌%◌, ◌^◌}
use Rattle.link_model.specs.Image.{own_address}
use Rattle.link_model.specs.Layout.{layout_of}
use Rattle.link_model.specs.Sound.{PlaceFits}
use Rattle.link_model.specs.declared.graph.GPlace.{GPlace}
use Rattle.link_model.specs.declared.graph.LinkGraph.{LinkGraph}
use Rattle.session_units.proofs.Looked.{found_in}
use Rattle.session_units.proofs.parts.Parts.address.Goals as goal

pub place_address-requires-clause-fits : goal.place_address-requires-clause-fits
place_address-requires-clause-fits c =
    let found = found_in c.self.inside.graph c.args.self.now c.self.inside.offers.items c.args.k c.index.result.now c.self.view_is c.self.invariant.0 c.self.invariant.4 c.requires c.index.ensures in
    subst (λ (g : LinkGraph). PlaceFits g c.index.result.now.place) (sym c.self.view_is) found.fits

pub returns : goal.returns
returns c =
    let found = found_in c.self.inside.graph c.args.self.now c.self.inside.offers.items c.args.k c.index.result.now c.self.view_is c.self.invariant.0 c.self.invariant.4 c.requires c.index.ensures in
    c.place_address.ensures
    ∙ ap (λ (g : LinkGraph). own_address (layout_of g []) c.args.base c.index.result.now.place % 2 ^ 64) c.self.view_is
    ∙ ap (λ (p : GPlace). own_address (layout_of c.args.self.now []) c.args.base p % 2 ^ 64) (sym found.place)
