-- The dependence groups of a unit (ORC: SymbolDependenceGroup): one for the whole unit.
use Rattle.std.specs.Prelude.{List, [], ◌∷◌, Option, filter_map}
use Rattle.orc_ids.specs.declared.ids.InstId.{InstId}
use Rattle.orc_ids.specs.declared.groups.Group.{Group}

-- all the unit's instances, which depend on all its bound externals, in symbol order
abbrev pub groups_of : List InstId → List (Option InstId) → List Group
groups_of own bound = record { members = own; deps = filter_map (λ i. i) bound } ∷ []
