-- What follows of linked programs.
use Rattle.std.specs.Prelude.{◌≡◌, ◌≢◌, ℕ, ◌+◌, ◌≤◌, ◌⊎◌, Bool, true, List, slice_get, Contains, Option, Some}
use Rattle.link_model.specs.Image.{image_bytes, is_paired, place_of, told_address}
use Rattle.link_model.specs.Layout.{layout_of}
use Rattle.link_model.specs.Sound.{Sound}
use Rattle.link_model.specs.declared.graph.Edge.{Edge}
use Rattle.link_model.specs.declared.graph.GPlace.TheVariants.{In}
use Rattle.link_model.specs.declared.graph.LinkGraph.{LinkGraph}
use Rattle.static_links.specs.Links.{Member, Spots, IsMapped, IsNeeded, IsLinkedProgram, linked_byte}

-- a graph that was laid out with these live names, at a base
abbrev pub laid_out : LinkGraph → List Bool → ℕ → Member
laid_out g live base = record { graph = g; layout = layout_of g live; base = base }

-- the chosen blocks have the labels of their pairs
abbrev pub HasLabels : LinkGraph → (ℕ → Bool) → Type 0
HasLabels g chosen = (e : Edge) (block offset : ℕ) → Contains g.edges e → chosen e.block ≡ true → is_paired e.kind ≡ true → place_of g e.target ≡ In block offset → chosen block ≡ true

-- the unit is told the map's address of each symbol that an edge of a chosen block refers to
abbrev pub IsToldSo : LinkGraph → List Bool → ℕ → List (Option ℕ) → (ℕ → Bool) → (ℕ → ℕ) → Type 0
IsToldSo g live base bound chosen address = (e : Edge) → Contains g.edges e → chosen e.block ≡ true → told_address g (layout_of g live) base bound e.target ≡ address e.target

-- then its image is linked at each mapped place
abbrev pub ImageIsLinked : Type 0
ImageIsLinked = (g : LinkGraph) (live : List Bool) (base : ℕ) (bound : List (Option ℕ)) (chosen : ℕ → Bool) (address : ℕ → ℕ) →
    Sound g → HasLabels g chosen → IsToldSo g live base bound chosen address →
    (place : ℕ) → IsMapped (laid_out g live base) chosen place →
    image_bytes g (layout_of g live) base bound place ≡ linked_byte (laid_out g live base) chosen address place

-- the member is a sound graph that was laid out
pub record IsLaidOut (m : Member) : Type 0 where
  pub live : List Bool
  pub is : m ≡ laid_out m.graph live m.base
  pub sound : Sound m.graph

-- the member that the entry needs a block of
pub record IsNeededMember (members : List Member) (spots : Spots) (first : Option (ℕ × ℕ)) (k : ℕ) (m : Member) : Type 0 where
  pub there : slice_get members k ≡ Some m
  pub block : ℕ
  pub needed : IsNeeded members spots first (k, block)

-- such members lie apart: the one's memory ends before the other's begins
abbrev pub LieApart : List Member → Spots → Option (ℕ × ℕ) → Type 0
LieApart members spots first = (j k : ℕ) (m n : Member) → IsNeededMember members spots first j m → IsNeededMember members spots first k n → j ≢ k →
    (m.base + m.layout.shape.need ≤ n.base) ⊎ (n.base + n.layout.shape.need ≤ m.base)

-- there is a linked program of each entry
abbrev pub ProgramIsThere : Type 0
ProgramIsThere = (members : List Member) (spots : Spots) (first : Option (ℕ × ℕ)) →
    ((k : ℕ) (m : Member) → IsNeededMember members spots first k m → IsLaidOut m) → LieApart members spots first →
    (memory : ℕ → Option ℕ) × IsLinkedProgram members spots first memory
