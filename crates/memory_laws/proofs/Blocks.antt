-- Which blocks of a unit a block reaches, and which symbols it needs.
use Rattle.std.proofs.Common.{◌≡◌, ℕ, Bool, true, ◌&&◌, ◌==◌, cond, List, length, filter, Contains, refl, ap, ◌∙◌, Some, None}
use Rattle.std.proofs.lemmas.Bool.{and_from, eq-eqb, or_left, or_right}
use Rattle.graph_walks.specs.Walks as walks
use Rattle.graph_walks.proofs.Paths.{reaches_self, reaches_next, reach_is_transitive, walks_suffice}
use Rattle.block_groups.specs.Groups.{block_of, is_own, leads_to, next_blocks, refers_to, needs}
use Rattle.block_groups.proofs.Needs.{bounded}
use Rattle.link_model.specs.Image.{is_paired, place_of}
use Rattle.link_model.specs.Sound.{Sound}
use Rattle.link_model.specs.declared.graph.Edge.{Edge}
use Rattle.link_model.specs.declared.graph.LinkGraph.{LinkGraph}
use Rattle.static_links.proofs.Lists.{any_there}
use Rattle.memory_laws.proofs.Lists.{chosen_here, filter_here}

-- an edge leads on from its block
pub edge_leads : (g : LinkGraph) (live : List Bool) (e : Edge) (a b : ℕ) → Contains g.edges e → e.block ≡ a → leads_to g live e ≡ Some b → Contains (next_blocks g live a) b
edge_leads g live e a b c at leads =
    chosen_here (leads_to g live) (filter (λ (x : Edge). x.block == a) g.edges) e b
    (filter_here (λ (x : Edge). x.block == a) g.edges e c (eq-eqb e.block a at)) leads

-- a way through blocks of the unit, and an edge more
pub walk_on : (g : LinkGraph) (live : List Bool) (e : Edge) (first a b : ℕ) → walks.Reaches (next_blocks g live) first a → Contains g.edges e → e.block ≡ a → leads_to g live e ≡ Some b → walks.Reaches (next_blocks g live) first b
walk_on g live e first a b walk c at leads =
    reach_is_transitive (next_blocks g live) first a b walk
    (reaches_next (next_blocks g live) a b b (edge_leads g live e a b c at leads) (reaches_self (next_blocks g live) b))

-- an edge leads to the block of a symbol of the unit's own
pub own_leads : (g : LinkGraph) (live : List Bool) (e : Edge) (b : ℕ) → is_own g live e.target ≡ true → block_of (place_of g e.target) ≡ Some b → leads_to g live e ≡ Some b
own_leads g live e b own at =
    ap (λ (t : Bool). cond t (block_of (place_of g e.target)) None) (or_left (is_own g live e.target) (is_paired e.kind) own) ∙ at

-- and the low part of a pair to the block of its label
pub pair_leads : (g : LinkGraph) (live : List Bool) (e : Edge) (b : ℕ) → is_paired e.kind ≡ true → block_of (place_of g e.target) ≡ Some b → leads_to g live e ≡ Some b
pair_leads g live e b paired at =
    ap (λ (t : Bool). cond t (block_of (place_of g e.target)) None) (or_right (is_own g live e.target) (is_paired e.kind) paired) ∙ at

-- a block needs the symbol of each edge of a block that it reaches
pub symbol_needed : (g : LinkGraph) (live : List Bool) (e : Edge) (first a : ℕ) → Sound g → walks.Reaches (next_blocks g live) first a → Contains g.edges e → e.block ≡ a → needs g live e.target first ≡ true
symbol_needed g live e first a sound walk c at =
    (walks_suffice (length g.blocks) (next_blocks g live) (refers_to g e.target) first (bounded g live sound)).1 (
      a,
      walk,
      any_there (λ (x : Edge). x.block == a && x.target == e.target) g.edges e c
          (and_from (e.block == a) (e.target == e.target) (eq-eqb e.block a at) (eq-eqb e.target e.target refl)),
    )
