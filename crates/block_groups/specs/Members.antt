-- Instances by the places of their names.
use Rattle.std.specs.Prelude.{◌≡◌, ℕ, ◌+◌, ◌<◌, Bool, ◌&&◌, List, length, map, filter, zip, Option, Some, None}
use Rattle.orc_ids.specs.declared.ids.InstId.{InstId}
use Rattle.link_model.specs.Graph.{is_offered}
use Rattle.block_groups.specs.Groups.{is_in, is_absolute, members_at, needed}
use Rattle.link_model.specs.declared.graph.GPlace.{GPlace}
use Rattle.link_model.specs.declared.graph.GPlace.TheVariants.{In, Abs, External}
use Rattle.link_model.specs.declared.graph.GSym.{GSym}
use Rattle.link_model.specs.declared.graph.LinkGraph.{LinkGraph}
use Rattle.block_groups.specs.Lists.{row}

-- the places of the offered symbols that the unit owns, by flags
abbrev pub places_of : List GSym → List Bool → List GPlace
places_of symbols owners = map (λ (p : GSym × Bool). p.0.place) (filter (λ (p : GSym × Bool). is_offered p.0 && p.1) (zip symbols owners))

-- the list of a place: its block's, or the one behind them for an absolute symbol
abbrev pub list_of : ℕ → GPlace → Option ℕ
list_of count (In block offset) = Some block
list_of count (Abs address) = Some count
list_of count (External weak) = None

-- the lists of the blocks, and then that of the absolute symbols
pub record AreMembers (count : ℕ) (places : List GPlace) (own : List InstId) (lists : List (List InstId)) : Type 0 where
  pub whole : length lists ≡ count + 1
  pub blocks : (b : ℕ) → b < count → row lists b ≡ members_at (is_in b) places own
  pub absolute : row lists count ≡ members_at is_absolute places own

-- the lists of what each block needs of these externals
pub record AreDeps (g : LinkGraph) (live : List Bool) (externals : List ℕ) (bound : List (Option InstId)) (lists : List (List InstId)) : Type 0 where
  pub whole : length lists ≡ length g.blocks
  pub rows : (b : ℕ) → b < length g.blocks → row lists b ≡ needed g live externals bound b
