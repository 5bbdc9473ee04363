-- Chains of aliases: an alias may stand for another alias, whose target isn't bound yet.
use Rattle.std.specs.Prelude.{ℕ, Bool, ◌&&◌, ◌==◌, List, [], slice_get, length, map, filter_map, Option, option_and_then, if◌then◌else◌}
use Rattle.std.specs.Option.{option_map_or}
use Rattle.orc_ids.specs.declared.ids.InstId.{InstId}
use Rattle.graph_walks.specs.Walks as walks
use Rattle.graph_walks.specs.Walks.{within}
use Rattle.session_model.specs.Plain.{UnitRow, Query, is_alias, is_waiting, row_test}
use Rattle.session_model.specs.declared.rows.InstRow.{InstRow}

-- the instances that a query matched
abbrev pub matched_instances : List (Option InstId) → List ℕ
matched_instances matched = map (λ (i : InstId). i.0) (filter_map (λ (o : Option InstId). o) matched)

-- what the link query of a unit matched
abbrev pub linked_to : List Query → UnitRow → List ℕ
linked_to queries x = option_map_or (λ (q : Query). matched_instances q.matched) (option_and_then (slice_get queries) x.query) []

-- From an instance whose unit is an alias that waits, the next one is the instance that its link
-- query matched; from any other there is none.
abbrev pub chain_next : List InstRow → List UnitRow → List Query → ℕ → List ℕ
chain_next rows units queries i = option_map_or
    (λ x. if is_alias x && is_waiting x.phase then linked_to queries x else [])
    (option_and_then (λ (r : InstRow). slice_get units r.unit.0) (slice_get rows i))
    []

-- the chain from i comes to j
abbrev pub ComesTo : List InstRow → List UnitRow → List Query → ℕ → ℕ → Type 0
ComesTo rows units queries i j = walks.Reaches (chain_next rows units queries) i j

-- the instance is one of the unit
abbrev pub is_of_unit : ℕ → List InstRow → ℕ → Bool
is_of_unit u rows i = row_test (λ r. r.unit.0 == u) rows i

-- the chain from i comes to an instance of the unit; it is no longer than the list of instances
abbrev pub comes_to_unit : List InstRow → List UnitRow → List Query → ℕ → ℕ → Bool
comes_to_unit rows units queries u i = within (length rows) (chain_next rows units queries) (is_of_unit u rows) i
