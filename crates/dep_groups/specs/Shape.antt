-- Which group an instance was emitted with, what that group depends on, and the entries that this shows.
use Rattle.std.specs.Prelude.{ℕ, Bool, Option, Some, None, List, [], map, slice_get}
use Rattle.std.specs.Option.{option_map_or}
use Rattle.dep_groups.specs.Nodes.{Node}
use Rattle.dep_groups.specs.declared.graph.Graph.{Graph}
use Rattle.dep_groups.specs.Places.{place, is_set}
use Rattle.dep_groups.specs.Frontier.{Entry, Absent, Emitted}

-- what the group number g depends on
unfoldable pub deps_of : List Node → ℕ → List ℕ
deps_of nodes g = option_map_or (λ n. n.deps) (slice_get nodes g) []

-- the group of an emitted instance
abbrev pub home_in : Graph → ℕ → Option ℕ
home_in graph i = place graph.homes.items i

abbrev pub deps_in : Graph → ℕ → List ℕ
deps_in graph g = deps_of graph.nodes.items g

-- whether an instance is marked as ready
abbrev pub ready_in : Graph → ℕ → Bool
ready_in graph i = is_set graph.ready.items i

-- an instance of a group is emitted with what the group depends on
abbrev pub entry_of : List Node → Option ℕ → Entry
entry_of nodes None = Absent
entry_of nodes (Some g) = Emitted (deps_of nodes g)

abbrev pub entries_of : Graph → List Entry
entries_of graph = map (entry_of graph.nodes.items) graph.homes.items
