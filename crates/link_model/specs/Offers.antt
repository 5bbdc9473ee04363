-- What a unit offers to other units, and what it wants from them (ORC: the symbols of a
-- `MaterializationUnit`, and the lookup of what it refers to).
use Rattle.std.specs.Prelude.{ℕ, Bool, true, false, List, [], length, map, filter, unwrap_or, None}
use Rattle.orc_ids.specs.declared.flags.SymFlags.{SymFlags}
use Rattle.orc_ids.specs.declared.ids.NameId.{NameId}
use Rattle.orc_ids.specs.declared.lookup.Wanted.{Wanted}
use Rattle.link_model.specs.Graph.{is_offered, external_symbols}
use Rattle.link_model.specs.Image.{at_or, own_address}
use Rattle.link_model.specs.Layout.{layout_of}
use Rattle.link_model.specs.declared.graph.GPlace.{GPlace}
use Rattle.link_model.specs.declared.graph.GPlace.TheVariants.{Abs, External}
use Rattle.link_model.specs.declared.graph.GSym.{GSym}
use Rattle.link_model.specs.declared.graph.LinkGraph.{LinkGraph}

-- the symbols that a unit offers, in symbol order
abbrev pub offered_symbols : LinkGraph → List GSym
offered_symbols g = filter is_offered g.symbols

-- the name of a symbol that isn't local
abbrev pub name_of : GSym → NameId
name_of s = unwrap_or s.name (record { 0 = 0 })

abbrev pub offers_of : LinkGraph → List (NameId × SymFlags)
offers_of g = map (λ (s : GSym). (name_of s, s.flags)) (offered_symbols g)

-- the address of the offered symbol of a number, with the unit at a base; it is the same whatever
-- names are live
abbrev pub offer_address : LinkGraph → ℕ → ℕ → ℕ
offer_address g k base = own_address (layout_of g []) base (at_or (Abs 0) (map (λ (s : GSym). s.place) (offered_symbols g)) k)

-- an undefined weak symbol is weakly referenced, and every other external is required
abbrev pub is_weak_reference : GPlace → Bool
is_weak_reference (External weak) = weak
is_weak_reference _ = false

abbrev pub wanted_of : GSym → Wanted
wanted_of s = record { name = name_of s; weak = is_weak_reference s.place }

abbrev pub no_symbol : GSym
no_symbol = record { name = None; place = Abs 0; flags = record { weak = false; common = false; exported = false; callable = false }; global = false }

-- the names that a unit looks up, with these live names, in symbol order
abbrev pub wanted_by : LinkGraph → List Bool → List Wanted
wanted_by g live = map (λ s. wanted_of (at_or no_symbol g.symbols s)) (external_symbols g live)
