-- How units and jobs are kept: the room for what is owed, the count of the units that are held, and a mark for
-- each unit, which is set only while jobs are dropped.
use Rattle.std.specs.Prelude.{◌≡◌, ℕ, ◌+◌, ◌*◌, ◌≤◌, Bool, false, cond, List, length, get_or, count_by}
use Rattle.orc_ids.specs.declared.limits.TheConstants.{UNIT_LIMIT}
use Rattle.session_model.specs.declared.rows.Job.{Job}
use Rattle.mat_unit.specs.declared.unit.Unit.{Unit as OneUnit}
use Rattle.mat_unit.specs.Roster.{held}

-- the jobs, oldest first, and for how many more there is room; how many units they may be of, and for how
-- many more of those there is room
pub record Listed : Type 0 where
  pub jobs : List Job
  pub room : ℕ
  pub units : ℕ
  pub unit_room : ℕ

-- the unit number k is marked
abbrev pub is_marked : List Bool → ℕ → Bool
is_marked marks k = get_or marks k false

-- the marks of the chosen units are set to this, and no others
abbrev pub AreMarked : (ℕ → Bool) → Bool → List Bool → List Bool → Type 0
AreMarked chosen to old new = (k : ℕ) → is_marked new k ≡ cond (chosen k) to (is_marked old k)

-- no unit is marked
abbrev pub IsClear : List Bool → Type 0
IsClear marks = (k : ℕ) → is_marked marks k ≡ false

-- for how many of the units' jobs the room was made and not used
abbrev pub owed : {U : Type 0} → List (OneUnit U) → ℕ
owed units = count_by (λ x. x.can_start) units + count_by (λ x. x.can_finish) units

-- the units that are held are counted, and there is room for each job that is owed, and for the units that may
-- still come with their two jobs
pub record IsKept {U : Type 0} (units : List (OneUnit U)) (jobs : Listed) (capacity count spare : ℕ) : Type 0 where
  pub few : length units ≤ UNIT_LIMIT
  pub counted : count ≡ held units
  pub known : jobs.units ≡ length units
  pub room : length units + spare ≤ capacity
  pub unit_room : spare ≤ jobs.unit_room
  pub job_room : owed units + 2 * spare ≤ jobs.room
