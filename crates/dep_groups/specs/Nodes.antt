-- Groups by number, and how they lie in their tables.
use Rattle.std.specs.Prelude.{◌≡◌, ℕ, zero, suc, ◌-◌, ◌^◌, ◌<◌, ◌≤◌, min, List, [], ◌∷◌, length, get_or, Vec, vec_len, vec_capacity}
use Rattle.std.specs.Global.{Global}
use Rattle.std.specs.List.{between}
use Rattle.orc_ids.specs.declared.ids.InstId.{InstId}
use Rattle.orc_ids.specs.declared.groups.Group.{Group}
use Rattle.dep_groups.specs.declared.nodes.End.{End}
use Rattle.dep_groups.specs.Frontier.{numbers}

-- the members of a group, and what all of them depend on
pub record Node : Type 0 where
  pub members : List InstId
  pub deps : List ℕ

abbrev pub node_of : Group → Node
node_of group = record { members = group.members; deps = numbers group.deps }

-- for how many groups more there is room, and for how many members and dependencies in all
pub record Room : Type 0 where
  pub groups : ℕ
  pub members : ℕ
  pub deps : ℕ

pub record NodeList : Type 0 where
  pub items : List Node
  pub room : Room

pub record IsEnough (room : Room) (groups members deps : ℕ) : Type 0 where
  pub groups_fit : groups ≤ room.groups
  pub members_fit : members ≤ room.members
  pub deps_fit : deps ≤ room.deps

-- how many more there is room for that have numbers below 2^32 - 1
abbrev pub spare : ℕ → ℕ → ℕ
spare capacity count = min capacity (2 ^ 32 - 1) - count

abbrev pub room_in : Vec End Global → Vec InstId Global → Vec ℕ Global → Room
room_in ends members deps = record {
  groups = spare (vec_capacity ends) (vec_len ends);
  members = spare (vec_capacity members) (vec_len members);
  deps = spare (vec_capacity deps) (vec_len deps);
}

-- a group begins where the one before it ends
abbrev pub origin : End
origin = record { members = 0; deps = 0 }

abbrev pub start_of : List End → ℕ → End
start_of ends zero = origin
start_of ends (suc k) = get_or ends k origin

-- what lies in the tables between two ends
abbrev pub node_between : List InstId → List ℕ → End → End → Node
node_between members deps start end = record { members = between start.members end.members members; deps = between start.deps end.deps deps }

-- the groups that end at these places, of which the first begins at a start
abbrev pub nodes_from : List InstId → List ℕ → End → List End → List Node
nodes_from members deps start [] = []
nodes_from members deps start (end ∷ ends) = node_between members deps start end ∷ nodes_from members deps end ends

abbrev pub nodes_in : List InstId → List ℕ → List End → List Node
nodes_in members deps ends = nodes_from members deps origin ends

-- no group ends before it begins, and the last one ends where the tables do
abbrev pub Rise : End → List End → ℕ → ℕ → Type 0
Rise start [] members deps = (start.members ≡ members) × (start.deps ≡ deps)
Rise start (end ∷ ends) members deps = (start.members ≤ end.members) × (start.deps ≤ end.deps) × Rise end ends members deps

-- a group lies in the tables
pub record IsCut (start end : End) (members deps : ℕ) : Type 0 where
  pub members_rise : start.members ≤ end.members
  pub deps_rise : start.deps ≤ end.deps
  pub members_within : end.members ≤ members
  pub deps_within : end.deps ≤ deps

pub record AreFlat (members : List InstId) (deps : List ℕ) (ends : List End) : Type 0 where
  pub rise : Rise origin ends (length members) (length deps)
  pub members_few : length members < 2 ^ 32
  pub deps_few : length deps < 2 ^ 32
