-- The statically linked program of some objects, at these bases: each keeps the names that it defines, and a name stands
-- for its definition among them.
use Rattle.std.specs.Prelude.{ℕ, ◌+◌, ◌<◌, ◌^◌, ◌&&◌, not, List, [], ◌∷◌, map, slice_get, All, unwrap_or, ⊤, if◌then◌else◌}
use Rattle.std.specs.Option.{option_map_or}
use Rattle.link_model.specs.Graph.{is_defined}
use Rattle.link_model.specs.Image.{at_or}
use Rattle.link_model.specs.Offers.{name_of, no_symbol}
use Rattle.link_model.specs.declared.graph.GPlace.{GPlace}
use Rattle.link_model.specs.declared.graph.GPlace.TheVariants.{Abs}
use Rattle.link_model.specs.declared.graph.GSym.{GSym}
use Rattle.link_model.specs.declared.graph.LinkGraph.{LinkGraph}
use Rattle.session_model.specs.Plain.{UnitRow}
use Rattle.static_links.specs.Laws.{laid_out}
use Rattle.static_links.specs.Links.{Member, Spot, Spots}
use Rattle.memory_laws.specs.Closures.{nowhere, own_spot}
use Rattle.memory_laws.specs.Names.{definition, kept_names}

-- the bases of a session's units
abbrev pub bases_of : List UnitRow → List ℕ
bases_of units = map (λ (x : UnitRow). unwrap_or x.base 0) units

-- the objects laid out at these bases, the first of them being number k
abbrev pub members_from : List LinkGraph → List ℕ → ℕ → List LinkGraph → List Member
members_from graphs bases k [] = []
members_from graphs bases k (g ∷ gs) = laid_out g (kept_names graphs k g) (at_or 0 bases k) ∷ members_from graphs bases (k + 1) gs

abbrev pub program_members : List LinkGraph → List ℕ → List Member
program_members graphs bases = members_from graphs bases 0 graphs

-- where a name's definition is, or nowhere
abbrev pub spot_in : List Member → ℕ × ℕ → Spot
spot_in members d = option_map_or (λ (m : Member). own_spot d.0 m d.1) (slice_get members d.0) nowhere

abbrev pub name_spot : List LinkGraph → List Member → ℕ → Spot
name_spot graphs members name = option_map_or (spot_in members) (definition graphs name) nowhere

-- a local symbol is where its object has it, and any other where its name's definition is
abbrev pub symbol_spot : List LinkGraph → List Member → ℕ → Member → ℕ → GSym → Spot
symbol_spot graphs members k m s symbol =
    if not symbol.global && is_defined symbol.place then own_spot k m s else name_spot graphs members (name_of symbol).0

abbrev pub spots_by_name : List LinkGraph → List Member → Spots
spots_by_name graphs members k s = option_map_or (λ (m : Member). symbol_spot graphs members k m s (at_or no_symbol m.graph.symbols s)) (slice_get members k) nowhere

-- absolute symbols have addresses of 64 bits
abbrev pub IsAddress : GPlace → Type 0
IsAddress (Abs address) = address < 2 ^ 64
IsAddress _ = ⊤

abbrev pub HasAddresses : LinkGraph → Type 0
HasAddresses g = All (λ (s : GSym). IsAddress s.place) g.symbols
