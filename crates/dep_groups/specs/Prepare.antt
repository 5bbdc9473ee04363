-- The room for groups is made before anything changes.
use Rattle.std.specs.Prelude.{◌≡◌, ℕ, ◌<◌, ◌≤◌, ◌+◌, ◌^◌, length, Contains, vec_len, vec_capacity}
use Rattle.orc_ids.specs.declared.ids.InstId.{InstId}
use Rattle.dep_groups.specs.declared.graph.Graph.{Graph}
use Rattle.orc_ids.specs.declared.groups.Group.{Group}
use Rattle.dep_groups.specs.declared.prepare.Needs.{Needs}
use Rattle.dep_groups.specs.declared.resolve.Core.{Core}
use Rattle.dep_groups.specs.Places.{place, unset}
use Rattle.dep_groups.specs.Nodes.{spare, IsEnough}
use Rattle.dep_groups.specs.Shape.{home_in, ready_in}

-- what is needed with one group more
pub record Covers (group : Group) (old new : Needs) : Type 0 where
  pub more : old.places ≤ new.places
  pub members : (m : InstId) → Contains group.members m → m.0 < new.places
  pub deps : (d : InstId) → Contains group.deps d → d.0 < new.places
  pub member_count : new.members ≡ old.members + length group.members
  pub dep_count : new.deps ≡ old.deps + length group.deps

-- the same lists, perhaps with more room
pub record IsRoomierGraph (old new : Graph) : Type 0 where
  pub homes : new.homes.items ≡ old.homes.items
  pub nodes : new.nodes.items ≡ old.nodes.items
  pub firsts : new.firsts.items ≡ old.firsts.items
  pub edges : new.edges.items ≡ old.edges.items
  pub ready : new.ready.items ≡ old.ready.items

pub record IsRoomier (old new : Core) : Type 0 where
  pub graph : IsRoomierGraph old.graph new.graph
  pub links : new.links.items ≡ old.links.items
  pub nexts : new.nexts.items ≡ old.nexts.items
  pub heads : new.heads.items ≡ old.heads.items
  pub cursors : new.cursors.items ≡ old.cursors.items
  pub seen : new.trail.seen.items ≡ old.trail.seen.items
  pub order : new.trail.order.items ≡ old.trail.order.items
  pub told : new.told.items ≡ old.told.items
  pub count : vec_len new.told ≡ vec_len old.told
  pub order_room : vec_capacity old.trail.order ≤ vec_capacity new.trail.order
  pub told_room : vec_capacity old.told ≤ vec_capacity new.told

-- room for so many groups and what they need
pub record HasPlaces (graph : Graph) (groups : ℕ) (needs : Needs) : Type 0 where
  pub edges : needs.deps ≤ spare (vec_capacity graph.edges) (vec_len graph.edges)
  pub nodes : IsEnough graph.nodes.room groups needs.members needs.deps
  pub homes : needs.places ≤ vec_capacity graph.homes
  pub firsts : needs.places ≤ vec_capacity graph.firsts
  pub ready : needs.places ≤ vec_capacity graph.ready

pub record HasTables (core : Core) (groups places : ℕ) : Type 0 where
  pub links : vec_len core.links + groups ≤ vec_capacity core.links
  pub nexts : vec_len core.nexts + groups ≤ vec_capacity core.nexts
  pub cursors : vec_len core.cursors + groups ≤ vec_capacity core.cursors
  pub seen : vec_len core.trail.seen + groups ≤ vec_capacity core.trail.seen
  pub order : vec_len core.trail.seen + groups ≤ vec_capacity core.trail.order
  pub told : places ≤ vec_capacity core.told
  pub heads : places ≤ vec_capacity core.heads

-- the same for all that is there; there may be more places for instances
pub record IsAlike (old new : Core) : Type 0 where
  pub home : (i : ℕ) → home_in new.graph i ≡ home_in old.graph i
  pub ready : (i : ℕ) → ready_in new.graph i ≡ ready_in old.graph i
  pub firsts : (d : ℕ) → place new.graph.firsts.items d ≡ place old.graph.firsts.items d
  pub nodes : new.graph.nodes.items ≡ old.graph.nodes.items
  pub edges : new.graph.edges.items ≡ old.graph.edges.items
  pub links : new.links.items ≡ old.links.items
  pub nexts : new.nexts.items ≡ old.nexts.items
  pub heads : (d : ℕ) → place new.heads.items d ≡ place old.heads.items d
  pub cursors : new.cursors.items ≡ old.cursors.items
  pub seen : new.trail.seen.items ≡ old.trail.seen.items
  pub order : new.trail.order.items ≡ old.trail.order.items
  pub order_room : vec_capacity old.trail.order ≤ vec_capacity new.trail.order
  pub heads_size : length new.heads.items ≡ length new.graph.homes.items
  pub more : length old.graph.homes.items ≤ length new.graph.homes.items
  pub few : length old.graph.homes.items < 2 ^ 32 → length new.graph.homes.items < 2 ^ 32
  pub size : length new.graph.ready.items ≡ length new.graph.homes.items
  pub room : vec_len new.told + unset new.graph.ready.items ≤ vec_capacity new.told
