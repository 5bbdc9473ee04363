-- What the unit of a graph is, as functions of what a session decides.
use Rattle.std.specs.Prelude.{ℕ, ◌%◌, ◌^◌, List, map, Option, Some, None, option_map}
use Rattle.orc_ids.specs.declared.ids.InstId.{InstId}
use Rattle.orc_ids.specs.declared.ids.UnitName.{UnitName}
use Rattle.session_model.specs.Meaning.{Bindings, Meaning}
use Rattle.block_groups.specs.Groups.{groups_of}
use Rattle.link_model.specs.Image.{image_of, refused_edge}
use Rattle.link_model.specs.Layout.{layout_of}
use Rattle.link_model.specs.Offers.{offers_of, offer_address, wanted_by}
use Rattle.link_model.specs.declared.graph.LinkGraph.{LinkGraph}

-- what the externals are bound to, as instances and as addresses
abbrev pub instances : Bindings → List (Option InstId)
instances bound = map (option_map (λ p. p.0)) bound

abbrev pub addresses : Bindings → List (Option ℕ)
addresses bound = map (option_map (λ p. p.1)) bound

-- addresses are taken modulo 2 ^ 64
abbrev pub graph_meaning : UnitName → LinkGraph → Meaning
graph_meaning name g = record {
  name = name;
  offers = offers_of g;
  shape = λ live. Some (layout_of g live).shape;
  address = λ k base. offer_address g k base % 2 ^ 64;
  source = None;
  externals = wanted_by g;
  image = λ live base bound. image_of g (layout_of g live) base (addresses bound);
  groups = λ live base bound own. groups_of g live own (instances bound);
  refusal = λ live base bound. refused_edge g (layout_of g live) base (addresses bound);
}
