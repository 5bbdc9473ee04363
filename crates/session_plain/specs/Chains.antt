-- Chains of aliases, by lists of the instances that follow.
use Rattle.std.specs.Prelude.{◌≡◌, ℕ, Bool, false, ◌&&◌, ◌==◌, List, [], slice_get, filter_map, Option, option_and_then, if◌then◌else◌}
use Rattle.std.specs.Option.{option_map_or}
use Rattle.orc_ids.specs.declared.ids.InstId.{InstId}
use Rattle.session_model.specs.Chain.{comes_to_unit}
use Rattle.session_model.specs.Lists.{first_some, only_if}
use Rattle.session_model.specs.Plain.{Plain, UnitRow, is_alias, is_waiting}
use Rattle.session_model.specs.declared.entry.Reply.{Reply}
use Rattle.session_model.specs.declared.entry.Reply.TheVariants.{AliasCycle}
use Rattle.session_model.specs.declared.rows.InstRow.{InstRow}
use Rattle.session_model.specs.declared.rows.Query.{Query}
use Rattle.session_plain.specs.Marks.{mark_at}

-- the row is one of the unit
abbrev pub of_unit : ℕ → InstRow → Bool
of_unit u r = r.unit.0 == u

abbrev pub instances_in : List (Option InstId) → List InstId
instances_in matched = filter_map (λ (o : Option InstId). o) matched

-- what the link query of a unit matched
abbrev pub linked_list : List Query → UnitRow → List InstId
linked_list queries x = option_map_or (λ (q : Query). instances_in q.matched) (option_and_then (slice_get queries) x.query) []

-- and of an alias that waits
abbrev pub followed_list : List Query → UnitRow → List InstId
followed_list queries x = if is_alias x && is_waiting x.phase then linked_list queries x else []

-- what follows an instance of this row
abbrev pub chain_list : List UnitRow → List Query → InstRow → List InstId
chain_list units queries r = option_map_or (followed_list queries) (slice_get units r.unit.0) []

-- an instance is marked where the chain from it comes to one of the unit
pub record MarksChains (m : Plain) (u : ℕ) (marks : List Bool) : Type 0 where
  pub each : (i : ℕ) → mark_at marks false i ≡ comes_to_unit m.rows m.units m.queries u i

-- the first of these instances that is marked
abbrev pub marked_cycle : List Bool → List InstId → Option Reply
marked_cycle marks found = first_some (λ (i : InstId). only_if (mark_at marks false i.0) (AliasCycle i)) found
