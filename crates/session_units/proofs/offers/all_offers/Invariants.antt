use Rattle.std.proofs.Common.{◌≡◌, ◌++◌, map, drop}
use Rattle.std.specs.Prelude.{filter}
use Rattle.link_model.specs.Graph.{is_offered}
use Rattle.link_model.specs.Offers.{offered_symbols}
use Rattle.session_units.specs.Offered.{offer_of}
use Rattle.session_units.proofs.offers.all_offers.Given as goal

abbrev pub invariant-loop-s : goal.invariant-loop-s
invariant-loop-s l = l.all.items ++ map offer_of (filter is_offered (drop l.s-index l.g.symbols)) ≡ map offer_of (offered_symbols l.g)
