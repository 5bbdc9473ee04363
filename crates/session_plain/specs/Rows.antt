-- What some changes do to a row, by name.
use Rattle.std.specs.Prelude.{ℕ, Bool, true, false, ◌&&◌, ◌==◌, not, List, Option, map, slice_get, option_map, if◌then◌else◌}
use Rattle.std.specs.Option.{option_map_or}
use Rattle.std.specs.List.{list_any}
use Rattle.orc_ids.specs.declared.ids.InstId.{InstId}
use Rattle.session_model.specs.Lists.{only_if}
use Rattle.orc_ids.specs.declared.groups.Group.{Group}
use Rattle.session_model.specs.Plain.{UnitRow}
use Rattle.session_model.specs.Change.{hits_failed, job_unit}
use Rattle.session_model.specs.Reach.{is_ready}
use Rattle.session_model.specs.declared.rows.InstRow.{InstRow}
use Rattle.session_model.specs.declared.rows.Job.{Job}
use Rattle.session_model.specs.declared.rows.Phase.TheVariants as phase
use Rattle.session_plain.specs.Marks.{mark_at}

-- the row at i fails where both have marked it: it isn't ready, and it reaches a root
abbrev pub marked_row : List Bool → List Bool → ℕ → InstRow → InstRow
marked_row unready reaching i r = record r { phase = if mark_at unready true i && mark_at reaching false i then phase.Failed else r.phase }

-- the group's dependencies, if the instance at i is in it
abbrev pub group_deps : ℕ → Group → Option (List InstId)
group_deps i g = only_if (list_any (λ (j : InstId). j.0 == i) g.members) g.deps

-- the unit at this number is of the tracker
abbrev pub is_tracked : List UnitRow → ℕ → ℕ → Bool
is_tracked units t u = option_map_or (λ v. v == t) (option_map (λ x. x.tracker) (slice_get units u)) false

abbrev pub is_tracked_row : List UnitRow → ℕ → InstRow → Bool
is_tracked_row units t r = r.present && is_tracked units t r.unit.0

abbrev pub hidden_row : List UnitRow → ℕ → InstRow → InstRow
hidden_row units t r = record r { present = r.present && not (is_tracked units t r.unit.0) }

abbrev pub tracked_roots : List UnitRow → ℕ → List InstRow → ℕ → Bool
tracked_roots units t rows i = option_map_or (is_tracked_row units t) (slice_get rows i) false && not (is_ready rows i)

abbrev pub removed_rows : List UnitRow → ℕ → List InstRow → List InstRow
removed_rows units t rows = map (hidden_row units t) (hits_failed (tracked_roots units t rows) rows)

-- the job is of a unit of another tracker
abbrev pub stays_listed : List UnitRow → ℕ → Job → Bool
stays_listed units t j = not (is_tracked units t (job_unit j))
