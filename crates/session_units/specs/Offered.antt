-- The offered symbols of a graph, as they are looked up.
use Rattle.std.specs.Prelude.{◌≡◌, List, map}
use Rattle.link_model.specs.Offers.{offered_symbols, name_of}
use Rattle.link_model.specs.declared.graph.GSym.{GSym}
use Rattle.link_model.specs.declared.graph.LinkGraph.{LinkGraph}
use Rattle.session_units.specs.declared.offers.Offer.{Offer}

abbrev pub offer_of : GSym → Offer
offer_of s = record { name = name_of s; flags = s.flags; place = s.place }

abbrev pub AreOffers : LinkGraph → List Offer → Type 0
AreOffers g offers = offers ≡ map offer_of (offered_symbols g)
