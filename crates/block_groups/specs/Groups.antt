-- The dependence groups of a unit (ORC: SymbolDependenceGroup): one for each block, and one for its
-- absolute symbols.
use Rattle.std.specs.Prelude.{ℕ, Bool, true, false, ◌&&◌, ◌||◌, ◌==◌, List, [], ◌∷◌, ◌++◌, length, map, zip, filter, filter_map, flat_map, Option, Some, None, if◌then◌else◌}
use Rattle.std.specs.List.{list_any, range_with_len}
use Rattle.graph_walks.specs.Walks.{within}
use Rattle.orc_ids.specs.declared.ids.InstId.{InstId}
use Rattle.orc_ids.specs.declared.groups.Group.{Group}
use Rattle.link_model.specs.Graph.{is_offered, own_symbols, external_symbols}
use Rattle.link_model.specs.Image.{at_or, is_paired, place_of}
use Rattle.link_model.specs.declared.graph.Edge.{Edge}
use Rattle.link_model.specs.declared.graph.GPlace.{GPlace}
use Rattle.link_model.specs.declared.graph.GPlace.TheVariants.{In, Abs}
use Rattle.link_model.specs.declared.graph.GSym.{GSym}
use Rattle.link_model.specs.declared.graph.LinkGraph.{LinkGraph}

-- Which blocks a block reaches

abbrev pub block_of : GPlace → Option ℕ
block_of (In block offset) = Some block
block_of _ = None

-- the unit itself defines the symbol
abbrev pub is_own : LinkGraph → List Bool → ℕ → Bool
is_own g live s = at_or false (own_symbols g.symbols live) s

-- An edge leads to the block of its symbol where that is the unit's own. The low part of a pair leads to
-- the block of its label, live or not: its value is that of the upper part which stands there.
abbrev pub leads_to : LinkGraph → List Bool → Edge → Option ℕ
leads_to g live e = if is_own g live e.target || is_paired e.kind then block_of (place_of g e.target) else None

-- the blocks that the edges of a block lead to
abbrev pub next_blocks : LinkGraph → List Bool → ℕ → List ℕ
next_blocks g live b = filter_map (leads_to g live) (filter (λ (e : Edge). e.block == b) g.edges)

-- an edge of the block refers to the symbol
abbrev pub refers_to : LinkGraph → ℕ → ℕ → Bool
refers_to g s b = list_any (λ (e : Edge). e.block == b && e.target == s) g.edges

-- A block needs a symbol where it, or a block that it reaches, refers to it. A walk need not be longer
-- than the list of blocks.
abbrev pub needs : LinkGraph → List Bool → ℕ → ℕ → Bool
needs g live s b = within (length g.blocks) (next_blocks g live) (refers_to g s) b

-- of these externals, the instances of those that are bound and that a block needs
abbrev pub needed : LinkGraph → List Bool → List ℕ → List (Option InstId) → ℕ → List InstId
needed g live externals bound b = filter_map (λ (p : ℕ × Option InstId). if needs g live p.0 b then p.1 else None) (zip externals bound)

-- Which instances stand where

-- the places of the names that are live, in symbol order
abbrev pub live_places : LinkGraph → List Bool → List GPlace
live_places g live = map (λ (p : GSym × Bool). p.0.place) (filter (λ (p : GSym × Bool). is_offered p.0 && p.1) (zip g.symbols (own_symbols g.symbols live)))

abbrev pub is_in : ℕ → GPlace → Bool
is_in b (In block offset) = block == b
is_in b _ = false

abbrev pub is_absolute : GPlace → Bool
is_absolute (Abs address) = true
is_absolute _ = false

-- the instances, one for each of these places, whose places pass
abbrev pub members_at : (GPlace → Bool) → List GPlace → List InstId → List InstId
members_at test places own = map (λ (p : GPlace × InstId). p.1) (filter (λ (p : GPlace × InstId). test p.0) (zip places own))

-- The groups

-- a group has members
abbrev pub group_of : List InstId → List InstId → List Group
group_of [] deps = []
group_of (i ∷ is) deps = record { members = i ∷ is; deps = deps } ∷ []

-- in block order, and the absolute symbols, which need nothing, last; `own` has an instance for each live
-- name, and `bound` has what each external is bound to
abbrev pub groups_of : LinkGraph → List Bool → List InstId → List (Option InstId) → List Group
groups_of g live own bound =
    flat_map (λ b. group_of (members_at (is_in b) (live_places g live) own) (needed g live (external_symbols g live) bound b)) (range_with_len 0 (length g.blocks))
    ++ group_of (members_at is_absolute (live_places g live) own) []
