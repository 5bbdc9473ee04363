-- The groups that have to be looked at again, since what they were linked to is ready.
use Rattle.std.specs.Prelude.{◌≡◌, ℕ, ◌<◌, ◌≤◌, true, false, Option, Some, None, ◌⊎◌, List, length, slice_get, Contains}
use Rattle.orc_ids.specs.declared.ids.InstId.{InstId}
use Rattle.dep_groups.specs.declared.graph.Edge.{Edge}
use Rattle.dep_groups.specs.declared.graph.Graph.{Graph}
use Rattle.dep_groups.specs.declared.resolve.Core.{Core}
use Rattle.dep_groups.specs.Places.{place}
use Rattle.dep_groups.specs.Shape.{home_in, deps_in, ready_in}
use Rattle.dep_groups.specs.Links.{IsHeld}
use Rattle.dep_groups.specs.Marks.{IsTold}

-- the graph is the same but for what is ready
pub record IsSameGraph (old new : Graph) : Type 0 where
  pub homes : new.homes ≡ old.homes
  pub nodes : new.nodes ≡ old.nodes
  pub firsts : new.firsts ≡ old.firsts
  pub edges : new.edges ≡ old.edges

-- from a mention on, a group is listed
pub data IsListed (edges : List Edge) : Option ℕ → ℕ → Type 0 where
  here : {k g : ℕ} (e : Edge) → slice_get edges k ≡ Some e → e.group ≡ g → IsListed edges (Some k) g
  later : {k g : ℕ} (e : Edge) → slice_get edges k ≡ Some e → IsListed edges e.next g → IsListed edges (Some k) g

-- each group is listed with exactly what it depends on; a mention is behind the one that it leads to
pub record IsIndexed (graph : Graph) : Type 0 where
  pub complete : (g d : ℕ) → Contains (deps_in graph g) d → IsListed graph.edges.items (place graph.firsts.items d) g
  pub named : (g d : ℕ) → IsListed graph.edges.items (place graph.firsts.items d) g → Contains (deps_in graph g) d
  pub falls : (k j : ℕ) (e : Edge) → slice_get graph.edges.items k ≡ Some e → e.next ≡ Some j → j < k
  pub groups : (k : ℕ) (e : Edge) → slice_get graph.edges.items k ≡ Some e → e.group < length graph.nodes.items
  pub firsts : (d k : ℕ) → place graph.firsts.items d ≡ Some k → k < length graph.edges.items

-- a group is linked to an instance that was told from a place on
pub record IsWaking (core : Core) (at g : ℕ) : Type 0 where
  pub to : ℕ
  pub link : place core.links.items g ≡ Some to
  pub told : IsTold core.told.items at (record { 0 = to })

-- each group with members that aren't ready waits, is to be woken, or is new
pub record AreHeld (core : Core) (fresh at : ℕ) : Type 0 where
  pub held : (i g : ℕ) → home_in core.graph i ≡ Some g → ready_in core.graph i ≡ false → IsHeld core.graph core.links.items g ⊎ (IsWaking core at g ⊎ (fresh ≤ g))

-- the members of a group are ready, or it waits
abbrev pub IsSettled : Core → ℕ → Type 0
IsSettled core group = (i : ℕ) → home_in core.graph i ≡ Some group → (ready_in core.graph i ≡ true) ⊎ IsHeld core.graph core.links.items group

-- each group with members that aren't ready waits
pub record AllHeld (graph : Graph) (links : List (Option ℕ)) : Type 0 where
  pub held : (i g : ℕ) → home_in graph i ≡ Some g → ready_in graph i ≡ false → IsHeld graph links g

-- what is told is marked as ready
pub record AreToldReady (core : Core) : Type 0 where
  pub ready : (k : ℕ) (m : InstId) → slice_get core.told.items k ≡ Some m → ready_in core.graph m.0 ≡ true

-- groups from one on are linked to nothing
pub record AreUnlinked (links : List (Option ℕ)) (first : ℕ) : Type 0 where
  pub unlinked : (g : ℕ) → first ≤ g → place links g ≡ None
