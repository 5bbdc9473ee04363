-- The units of a session as members of a program, and a map of their symbols that says what the session bound them to.
use Rattle.std.specs.Prelude.{◌≡◌, ◌↔◌, ◌⊎◌, ℕ, Bool, true, false, List, [], ◌∷◌, length, map, zip, slice_get, Option, Some, None, IfSome, option_map, option_and_then, unwrap_or}
use Rattle.orc_ids.specs.declared.ids.InstId.{InstId}
use Rattle.orc_ids.specs.declared.ids.UnitName.{UnitName}
use Rattle.link_model.specs.Graph.{external_symbols}
use Rattle.link_model.specs.Image.{at_or, own_address, place_of}
use Rattle.link_model.specs.Layout.{layout_of}
use Rattle.link_model.specs.Offers.{no_symbol, offered_symbols}
use Rattle.link_model.specs.Sound.{Sound}
use Rattle.link_model.specs.declared.graph.GPlace.{GPlace}
use Rattle.link_model.specs.declared.graph.LinkGraph.{LinkGraph}
use Rattle.block_groups.specs.Groups.{block_of, is_own}
use Rattle.session_model.specs.Meaning.{IsAlias, Meaning}
use Rattle.session_model.specs.Plain.{Plain, UnitRow, failed_at, is_alias}
use Rattle.session_model.specs.declared.rows.InstRow.{InstRow}
use Rattle.session_model.specs.declared.rows.UnitPhase.TheVariants as stage
use Rattle.session_units.specs.Meaning.{graph_meaning}
use Rattle.static_links.specs.Links.{Member, Spot, Spots}

-- the unit is that of a sound graph
pub record IsGraphUnit (unit : Meaning) (g : LinkGraph) : Type 0 where
  pub name : UnitName
  pub is : unit ≡ graph_meaning name g
  pub sound : Sound g

-- an object in which there is nothing
abbrev pub no_graph : LinkGraph
no_graph = record { blocks = []; symbols = []; edges = [] }

-- the unit needs no memory: its symbols are absolute, or it is an alias
pub record NeedsNoMemory (unit : Meaning) : Type 0 where
  pub shape : (live : List Bool) → unit.shape live ≡ None
  pub alias : IfSome unit.source (λ d. IsAlias unit)

-- what a unit is to a static linker: its object; and a unit without memory one in which there is nothing
abbrev pub IsObject : Meaning → LinkGraph → Type 0
IsObject unit g = IsGraphUnit unit g ⊎ (NeedsNoMemory unit × (g ≡ no_graph))

-- the units' objects, in order
pub record AreObjects (units : List UnitRow) (graphs : List LinkGraph) : Type 0 where
  pub whole : length graphs ≡ length units
  pub each : (u : ℕ) (x : UnitRow) (g : LinkGraph) → slice_get units u ≡ Some x → slice_get graphs u ≡ Some g → IsObject x.meaning g

-- a unit as a member of a program, with its live names and at its base
abbrev pub member_of : UnitRow → LinkGraph → Member
member_of x g = record { graph = g; layout = layout_of g x.live; base = unwrap_or x.base 0 }

abbrev pub members_of : List UnitRow → List LinkGraph → List Member
members_of units graphs = map (λ (p : UnitRow × LinkGraph). member_of p.0 p.1) (zip units graphs)

-- where the offered symbol of a number lies
abbrev pub offer_place : LinkGraph → ℕ → GPlace
offer_place g k = (at_or no_symbol (offered_symbols g) k).place

-- the unit and the block that an instance lies in
abbrev pub block_at : List LinkGraph → List InstRow → ℕ → Option (ℕ × ℕ)
block_at graphs rows i = option_and_then
    (λ (r : InstRow). option_and_then (λ (g : LinkGraph). option_map (λ b. (r.unit.0, b)) (block_of (offer_place g r.offer))) (slice_get graphs r.unit.0))
    (slice_get rows i)

-- where a unit's own symbol is
abbrev pub own_spot : ℕ → Member → ℕ → Spot
own_spot u m s = record { address = own_address m.layout m.base (place_of m.graph s); block = option_map (λ b. (u, b)) (block_of (place_of m.graph s)) }

-- an instance of a unit
pub record IsOf (m : Plain) (i : ℕ) (unit : UnitRow) : Type 0 where
  pub row : InstRow
  pub there : slice_get m.rows i ≡ Some row
  pub is : slice_get m.units row.unit.0 ≡ Some unit

-- The end of an instance is the instance itself where it is no alias's, and else the end of what the alias is bound to.
pub data IsEnd (m : Plain) : ℕ → ℕ → Type 0 where
  Itself : (i : ℕ) (x : UnitRow) → IsOf m i x → is_alias x ≡ false → IsEnd m i i
  Behind : (i end address : ℕ) (x : UnitRow) (target : InstId) → IsOf m i x → is_alias x ≡ true → x.bound ≡ Some (Some (target, address) ∷ []) → IsEnd m target.0 end → IsEnd m i end

-- it is the block that the end of an instance lies in, if that lies in one
abbrev pub IsBlockOf : Plain → List LinkGraph → ℕ → Option (ℕ × ℕ) → Type 0
IsBlockOf m graphs i block = (b : ℕ × ℕ) → (block ≡ Some b) ↔ ((end : ℕ) × IsEnd m i end × (block_at graphs m.rows end ≡ Some b))

-- a symbol that is nowhere has address 0
abbrev pub nowhere : Spot
nowhere = record { address = 0; block = None }

-- where an external is that is bound to an instance with its address, or to none
abbrev pub IsBoundAt : Plain → List LinkGraph → Option (InstId × ℕ) → Spot → Type 0
IsBoundAt m graphs (Some p) spot = (spot.address ≡ p.1) × IsBlockOf m graphs p.0.0 spot.block
IsBoundAt m graphs None spot = spot ≡ nowhere

-- The map says of each finished unit where its own symbols are, and where its externals are bound: to an instance that
-- hasn't failed since, or to none.
pub record IsMapOf (m : Plain) (graphs : List LinkGraph) (spots : Spots) : Type 0 where
  pub own : (u s : ℕ) (x : UnitRow) (g : LinkGraph) → slice_get m.units u ≡ Some x → slice_get graphs u ≡ Some g → x.phase ≡ stage.Done →
      is_own g x.live s ≡ true → spots u s ≡ own_spot u (member_of x g) s
  pub bound : (u s k : ℕ) (x : UnitRow) (g : LinkGraph) (b : Option (InstId × ℕ)) → slice_get m.units u ≡ Some x → slice_get graphs u ≡ Some g → x.phase ≡ stage.Done →
      slice_get (external_symbols g x.live) k ≡ Some s → slice_get (unwrap_or x.bound []) k ≡ Some b →
      IfSome b (λ p. failed_at m.rows p.0.0 ≡ false) → IsBoundAt m graphs b (spots u s)
