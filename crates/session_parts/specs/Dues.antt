-- The units whose link queries settle, and the listing of their Finish.
use Rattle.std.specs.Prelude.{◌≡◌, ℕ, ◌&&◌, Bool, false, List, [], ◌∷◌, ◌++◌, slice_get, Option, Some, None, is_none, option_to_list, if◌then◌else◌}
use Rattle.std.specs.Option.{option_map_or}
use Rattle.orc_ids.specs.declared.ids.UnitId.{UnitId}
use Rattle.session_model.specs.Plain.{Plain, UnitRow, is_waiting}
use Rattle.session_model.specs.Query.{is_met}
use Rattle.session_model.specs.Change.{finish_listed}
use Rattle.session_model.specs.declared.rows.InstRow.{InstRow}
use Rattle.session_model.specs.declared.rows.Query.{Query}
use Rattle.session_model.specs.declared.rows.UnitPhase.TheVariants as stage
use Rattle.query_book.specs.declared.ends.QueryEnd.{QueryEnd}
use Rattle.query_book.specs.Rows.{unit_of}

-- the units of the queries that are open and met
abbrev pub dues : List InstRow → List Query → List (Option QueryEnd) → List UnitId
dues rows (q ∷ qs) (end ∷ ends) = (if is_none end && is_met rows q then option_to_list (unit_of q) else []) ++ dues rows qs ends
dues rows _ _ = []

-- the unit waits for its link query
abbrev pub waits_at : List UnitRow → ℕ → Bool
waits_at units u = option_map_or (λ x. is_waiting x.phase) (slice_get units u) false

-- the unit's Finish is listed, if it waits
abbrev pub linked_due : UnitId → Plain → Plain
linked_due u m = if waits_at m.units u.0 then finish_listed u.0 m else m

abbrev pub all_linked : List UnitId → Plain → Plain
all_linked [] m = m
all_linked (u ∷ us) m = all_linked us (linked_due u m)

-- a unit that waits, waits for a query without an end
abbrev pub WaitsOpen : Plain → List (Option QueryEnd) → Type 0
WaitsOpen m ends = (u : ℕ) (x : UnitRow) (k : ℕ) → slice_get m.units u ≡ Some x → x.phase ≡ stage.Waiting → x.query ≡ Some k → slice_get ends k ≡ Some None

-- a unit that waits, waits for the query that links it
abbrev pub WaitsOwn : List Query → List UnitRow → Type 0
WaitsOwn queries units = (k u : ℕ) (q : Query) (x : UnitRow) → slice_get queries k ≡ Some q → q.unit ≡ Some u → slice_get units u ≡ Some x → x.phase ≡ stage.Waiting → x.query ≡ Some k
