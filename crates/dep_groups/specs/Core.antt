-- What a frontier keeps, and what always holds of it.
use Rattle.std.specs.Prelude.{◌≡◌, ℕ, ◌+◌, ◌<◌, ◌≤◌, ◌^◌, true, Some, length, Contains, vec_len, vec_capacity}
use Rattle.dep_groups.specs.declared.graph.Graph.{Graph}
use Rattle.dep_groups.specs.declared.resolve.Core.{Core}
use Rattle.dep_groups.specs.Places.{unset}
use Rattle.dep_groups.specs.Shape.{home_in, deps_in, ready_in}
use Rattle.dep_groups.specs.Search.{IsWired, LinksLead, ArePassed}
use Rattle.dep_groups.specs.Links.{AllEnd, AreQueued}
use Rattle.dep_groups.specs.Seek.{IsClear}
use Rattle.dep_groups.specs.Marks.{members_of}

-- each table has a place for each group, or for each instance; all have numbers below 2^32 - 1
pub record AreSized (core : Core) : Type 0 where
  pub links : length core.links.items ≡ length core.graph.nodes.items
  pub nexts : length core.nexts.items ≡ length core.graph.nodes.items
  pub heads : length core.heads.items ≡ length core.graph.homes.items
  pub cursors : length core.cursors.items ≡ length core.graph.nodes.items
  pub seen : length core.trail.seen.items ≡ length core.graph.nodes.items
  pub ready : length core.graph.ready.items ≡ length core.graph.homes.items
  pub few : length core.graph.nodes.items < 2 ^ 32
  pub places_few : length core.graph.homes.items < 2 ^ 32

-- what is marked as ready is emitted, and all that it depends on is marked
pub record AreClosed (graph : Graph) : Type 0 where
  pub emitted : (i : ℕ) → ready_in graph i ≡ true → (g : ℕ) × (home_in graph i ≡ Some g)
  pub closed : (i g d : ℕ) → ready_in graph i ≡ true → home_in graph i ≡ Some g → Contains (deps_in graph g) d → ready_in graph d ≡ true

pub record IsSound (core : Core) : Type 0 where
  pub sizes : AreSized core
  pub wired : IsWired core.graph (length core.graph.nodes.items)
  pub members : (i g : ℕ) → home_in core.graph i ≡ Some g → Contains (members_of core.graph.nodes.items g) (record { 0 = i })
  pub ready : AreClosed core.graph
  pub ends : AllEnd core.graph core.links.items
  pub leads : LinksLead core.graph core.links.items
  pub queued : AreQueued core.links.items core.nexts.items core.heads.items
  pub cursors : ArePassed core.graph core.cursors.items
  pub clear : IsClear core.trail
  pub room : vec_len core.told + unset core.graph.ready.items ≤ vec_capacity core.told
