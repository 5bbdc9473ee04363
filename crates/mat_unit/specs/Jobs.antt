-- The jobs that are listed, but for those of some units.
use Rattle.std.specs.Prelude.{ℕ, ◌<◌, Bool, not, ◌==◌, List, [], ◌∷◌, filter}
use Rattle.std.specs.List.{list_any}
use Rattle.orc_ids.specs.declared.ids.UnitId.{UnitId}
use Rattle.session_model.specs.Change.{job_unit}
use Rattle.session_model.specs.declared.rows.Job.{Job}

-- one of the units has that number
abbrev pub is_among : List UnitId → ℕ → Bool
is_among us n = list_any (λ u. u.0 == n) us

-- the jobs but for those of some units
abbrev pub without_jobs_of : List UnitId → List Job → List Job
without_jobs_of gone jobs = filter (λ j. not (is_among gone (job_unit j))) jobs

-- each of them is one of that many units
abbrev pub AreUnits : ℕ → List UnitId → Type 0
AreUnits n [] = Unit {0}
AreUnits n (u ∷ us) = (u.0 < n) × AreUnits n us
