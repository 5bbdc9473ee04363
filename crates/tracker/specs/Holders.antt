-- Who has a generator now: trees over the trackers that were made, of which each root knows whose its tree is.
use Rattle.std.specs.Prelude.{◌≡◌, ℕ, ◌+◌, ◌^◌, ◌==◌, ◌<◌, ◌≤◌, Bool, true, nat_lt, zero, suc, List, [], ◌∷◌, length, set, slice_get, Option, Some, None, unwrap_or, option_map, option_and_then, if◌then◌else◌}
use Rattle.std.specs.List.{list_any}
use Rattle.std.specs.Option.{option_map_or}
use Rattle.orc_ids.specs.declared.ids.GenId.{GenId}
use Rattle.orc_ids.specs.declared.limits.TheConstants.{TRACKER_LIMIT}
use Rattle.tracker.specs.declared.holders.Node.{Node}
use Rattle.tracker.specs.declared.holders.Hanging.{Hanging}
use Rattle.tracker.specs.declared.holders.TheConstants.{HEIGHT}
use Rattle.tracker.specs.declared.owned.Owned.{Owned}
use Rattle.tracker.specs.Owners.{within}

-- the node above this one, or itself at the top
abbrev pub up_of : List Node → ℕ → ℕ
up_of nodes n = option_map_or (λ x. unwrap_or x.up n) (slice_get nodes n) n

-- so many steps up
unfoldable pub climbed : ℕ → List Node → ℕ → ℕ
climbed zero nodes n = n
climbed (suc k) nodes n = up_of nodes (climbed k nodes n)

-- the lower tree hangs under the higher one, whose root may rise
abbrev pub hanging : ℕ → ℕ → ℕ → ℕ → Hanging
hanging a x b y =
    if nat_lt x y then record { below = a; above = b; rank = y }
    else (if nat_lt y x then record { below = b; above = a; rank = x } else record { below = a; above = b; rank = x + 1 })

-- the element at n is this one, where there is one
abbrev pub put : {X : Type 0} → ℕ → X → List X → List X
put {X} n v xs = option_map_or (λ (x : X). set xs n v) (slice_get xs n) xs

-- the node at n is below another one now
abbrev pub hung_under : ℕ → ℕ → List Node → List Node
hung_under n above nodes = option_map_or (λ (x : Node). set nodes n (record x { up = Some above })) (slice_get nodes n) nodes

-- what it is, and who has it
abbrev pub joined_nodes : Hanging → ℕ → List Node → List Node
joined_nodes h to nodes = put h.above (record { up = None; rank = h.rank; tracker = to }) (hung_under h.below h.above nodes)

-- the root of the tracker's tree, and its height
abbrev pub root_at : List Node → List ℕ → ℕ → Option (ℕ × ℕ)
root_at nodes roots t = option_and_then (λ r. option_map (λ (x : Node). (r, x.rank)) (slice_get nodes r)) (slice_get roots t)

-- two trackers have trees, which one tree can hold
pub record CanJoin (nodes : List Node) (roots : List ℕ) (from to : ℕ) : Type 0 where
  pub a : ℕ
  pub b : ℕ
  pub x : ℕ
  pub y : ℕ
  pub from_is : root_at nodes roots from ≡ Some (a, x)
  pub to_is : root_at nodes roots to ≡ Some (b, y)
  pub under : x < HEIGHT
  pub low : (hanging a x b y).rank < HEIGHT

-- the trees of two trackers are one tree of the second
pub record IsJoined (nodes : List Node) (roots : List ℕ) (from to : ℕ) (new : List Node) (tops : List ℕ) : Type 0 where
  pub a : ℕ
  pub b : ℕ
  pub x : Node
  pub y : Node
  pub a_is : slice_get roots from ≡ Some a
  pub b_is : slice_get roots to ≡ Some b
  pub x_is : slice_get nodes a ≡ Some x
  pub y_is : slice_get nodes b ≡ Some y
  pub low : (hanging a x.rank b y.rank).rank < HEIGHT
  pub nodes_are : new ≡ joined_nodes (hanging a x.rank b y.rank) to nodes
  pub tops_are : tops ≡ put to (hanging a x.rank b y.rank).above roots

-- how many nodes are of a tracker
abbrev pub tree_size : List ℕ → ℕ → ℕ
tree_size [] t = 0
tree_size (label ∷ labels) t = (if label == t then 1 else 0) + tree_size labels t

-- each node is of one tracker, as its root says; roots know their trackers, and trackers their roots; a high tree has many nodes
pub record AreTrees (nodes : List Node) (roots labels : List ℕ) : Type 0 where
  pub count : length labels ≡ length nodes
  pub rooted : length roots ≡ length nodes
  pub up : (n p : ℕ) (x : Node) → slice_get nodes n ≡ Some x → x.up ≡ Some p → (y : Node) × (slice_get nodes p ≡ Some y) × (x.rank < y.rank) × (slice_get labels n ≡ slice_get labels p)
  pub top : (n : ℕ) (x : Node) → slice_get nodes n ≡ Some x → x.up ≡ None → (slice_get labels n ≡ Some x.tracker) × (slice_get roots x.tracker ≡ Some n)
  pub low : (n : ℕ) (x : Node) → slice_get nodes n ≡ Some x → x.rank < HEIGHT
  pub many : (n : ℕ) (x : Node) → slice_get nodes n ≡ Some x → x.up ≡ None → 2 ^ x.rank ≤ tree_size labels x.tracker

-- the tracker has a tree
pub record HasRoot (nodes : List Node) (roots : List ℕ) (t : ℕ) : Type 0 where
  pub root : ℕ
  pub node : Node
  pub root_is : slice_get roots t ≡ Some root
  pub node_is : slice_get nodes root ≡ Some node
  pub top : node.up ≡ None
  pub its : node.tracker ≡ t

abbrev pub has_generator : Owned → ℕ → Bool
has_generator o g = list_any (λ (h : GenId). h.0 == g) o.generators

-- each tracker that is there has a tree, and each of its generators a node in it
pub record AreHeld (tracks : List (Option Owned)) (nodes : List Node) (roots : List ℕ) (homes : List (Option ℕ)) : Type 0 where
  pub labels : List ℕ
  pub trees : AreTrees nodes roots labels
  pub made : length nodes ≡ length tracks
  pub few : length nodes ≤ TRACKER_LIMIT
  pub rooted : (t : ℕ) (o : Owned) → within (slice_get tracks t) ≡ Some o → HasRoot nodes roots t
  pub homed : (t g : ℕ) (o : Owned) → within (slice_get tracks t) ≡ Some o → has_generator o g ≡ true → (n : ℕ) × (slice_get homes g ≡ Some (Some n)) × (slice_get labels n ≡ Some t)

-- more generators have homes, and those that had one have it yet
abbrev pub IsLonger : List (Option ℕ) → List (Option ℕ) → Type 0
IsLonger old new = (g n : ℕ) → slice_get old g ≡ Some (Some n) → slice_get new g ≡ Some (Some n)

-- the generator has a home in the tree of the tracker, and the others theirs
pub record IsHomed (homes : List (Option ℕ)) (roots : List ℕ) (g t : ℕ) (new : List (Option ℕ)) : Type 0 where
  pub root : ℕ
  pub root_is : slice_get roots t ≡ Some root
  pub here : slice_get new g ≡ Some (Some root)
  pub others : (k n : ℕ) → (k ≡ g → ⊥) → slice_get homes k ≡ Some (Some n) → slice_get new k ≡ Some (Some n)

-- the tracker at the root above the generator's home
abbrev pub holder_of : List Node → List (Option ℕ) → ℕ → Option ℕ
holder_of nodes homes g = option_and_then (λ n. option_map (λ (x : Node). x.tracker) (slice_get nodes (climbed HEIGHT nodes n))) (option_and_then (λ o. o) (slice_get homes g))
