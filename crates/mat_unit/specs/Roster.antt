-- The units of a session and the jobs that are listed (ORC: `MaterializationUnit`, and the tasks of a dispatcher).
use Rattle.std.specs.Prelude.{◌≡◌, ℕ, ◌-◌, Bool, true, Some, List, [], ◌∷◌, ◌++◌, drop, option_map, slice_get, count_by}
use Rattle.orc_ids.specs.declared.ids.DylibId.{DylibId}
use Rattle.orc_ids.specs.declared.ids.UnitId.{UnitId}
use Rattle.session_model.specs.Lists.{changed_at}
use Rattle.session_model.specs.declared.rows.Job.{Job}
use Rattle.mat_unit.specs.declared.unit.Unit.{Unit as OneUnit}
use Rattle.mat_unit.specs.Changes.{fresh, is_held}

-- the units by number, the jobs that are listed, oldest first, and for how many more units there is room
pub record Roster (U : Type 0) : Type 0 where
  pub units : List (OneUnit U)
  pub jobs : List Job
  pub spare : ℕ

-- no unit, no job and no room
abbrev pub nothing : {U : Type 0} → Roster U
nothing = record { units = []; jobs = []; spare = 0 }

-- one more unit, which uses the room for it
abbrev pub added : {U : Type 0} → U → DylibId → List Bool → Roster U → Roster U
added unit dylib live m = record { units = m.units ++ fresh unit dylib live ∷ []; jobs = m.jobs; spare = m.spare - 1 }

-- one unit goes on, and its job is listed behind all others
abbrev pub with_job : {U : Type 0} → UnitId → (OneUnit U → OneUnit U) → Job → Roster U → Roster U
with_job u on job m = record m { units = changed_at u.0 on m.units; jobs = m.jobs ++ job ∷ [] }

-- one unit goes on, and the oldest job is taken out
abbrev pub taken : {U : Type 0} → UnitId → (OneUnit U → OneUnit U) → Roster U → Roster U
taken u on m = record m { units = changed_at u.0 on m.units; jobs = drop 1 m.jobs }

-- the room for the unit's Start was made, and not used since
abbrev pub CanStart : {U : Type 0} → Roster U → UnitId → Type 0
CanStart m u = option_map (λ x. x.can_start) (slice_get m.units u.0) ≡ Some true

-- the room for the unit's Finish was made, and not used since
abbrev pub CanFinish : {U : Type 0} → Roster U → UnitId → Type 0
CanFinish m u = option_map (λ x. x.can_finish) (slice_get m.units u.0) ≡ Some true

-- how many units are held
abbrev pub held : {U : Type 0} → List (OneUnit U) → ℕ
held units = count_by is_held units
