-- Where a group lies in the tables.
use Rattle.std.specs.Prelude.{◌≡◌, ℕ, List}
use Rattle.std.specs.List.{between}
use Rattle.orc_ids.specs.declared.ids.InstId.{InstId}
use Rattle.dep_groups.specs.declared.nodes.End.{End}
use Rattle.dep_groups.specs.declared.nodes.Span.{Span}
use Rattle.dep_groups.specs.Nodes.{origin, nodes_in, Rise, IsCut}
use Rattle.dep_groups.specs.Shape.{deps_of}
use Rattle.dep_groups.specs.Marks.{members_of}

pub record IsSpan (ends : List End) (group : ℕ) (span : Span) : Type 0 where
  pub cut : (m d : ℕ) → Rise origin ends m d → IsCut span.start span.end m d
  pub members : (ms : List InstId) (ds : List ℕ) → members_of (nodes_in ms ds ends) group ≡ between span.start.members span.end.members ms
  pub deps : (ms : List InstId) (ds : List ℕ) → deps_of (nodes_in ms ds ends) group ≡ between span.start.deps span.end.deps ds
