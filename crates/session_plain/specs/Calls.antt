-- The parts of a call's answer, by name.
use Rattle.std.specs.Prelude.{ℕ, Bool, ◌&&◌, ◌||◌, not, List, Option, Some, None, unwrap_or, if◌then◌else◌}
use Rattle.std.specs.Option.{option_map_or}
use Rattle.orc_ids.specs.declared.ids.InstId.{InstId}
use Rattle.orc_ids.specs.declared.ids.UnitId.{UnitId}
use Rattle.orc_ids.specs.declared.groups.Group.{Group}
use Rattle.session_model.specs.Lists.{only_if, first_some}
use Rattle.session_model.specs.Plain.{UnitRow, is_defunct, failed_at, present_at, unsearched_at}
use Rattle.session_model.specs.Answer.{Called, Gone, Wrong, Right, is_held}
use Rattle.session_model.specs.declared.entry.Reply.{Reply}
use Rattle.session_model.specs.declared.entry.Reply.TheVariants.{Defunct, WrongPhase, BadDep}
use Rattle.session_model.specs.declared.rows.InstRow.{InstRow}

-- the unit is gone, or the call isn't right at it
abbrev pub turned_away : ℕ → UnitId → Bool → UnitRow → Option Reply
turned_away s u fits x = if is_defunct x.phase then Some (Defunct u) else (if is_held s x && fits then None else Some (WrongPhase u))

-- a call on this unit
abbrev pub called_at : ℕ → (UnitRow → Bool) → UnitRow → Called
called_at s fits x = if is_defunct x.phase then Gone else (if is_held s x && fits x then Right x else Wrong)

-- the instance can't be depended on
abbrev pub is_bad_dep : List InstRow → InstId → Bool
is_bad_dep rows i = failed_at rows i.0 || not (present_at rows i.0) || unsearched_at rows i.0

abbrev pub bad_dep_of : List InstRow → InstId → Option Reply
bad_dep_of rows i = only_if (is_bad_dep rows i) (BadDep i)

abbrev pub bad_in_group : List InstRow → Group → Option Reply
bad_in_group rows g = first_some (bad_dep_of rows) g.deps

-- what a call on a unit is answered, where it is answered so once the call is right
abbrev pub call_reply : ℕ → UnitId → (UnitRow → Bool) → Reply → Option UnitRow → Reply
call_reply s u fits right found = option_map_or (λ x. unwrap_or (turned_away s u (fits x) x) right) found (WrongPhase u)
