-- Work that is owed, and instances that can be run.
use Rattle.std.specs.Prelude.{◌≡◌, ℕ, true, ◌==◌, ◌⊎◌, List, slice_get, Some, is_some}
use Rattle.std.specs.List.{list_any}
use Rattle.session_model.specs.Plain.{Plain, UnitRow, present_at}
use Rattle.session_model.specs.Change.{job_unit}
use Rattle.session_model.specs.Reach.{Reaches, IsReady}
use Rattle.session_model.specs.declared.rows.InstRow.{InstRow}
use Rattle.session_model.specs.declared.rows.Job.{Job}

-- some unit has a listed job or is held
pub record IsOwed (m : Plain) : Type 0 where
  pub number : ℕ
  pub unit : UnitRow
  pub there : slice_get m.units number ≡ Some unit
  pub work : (list_any (λ (j : Job). job_unit j == number) m.jobs ≡ true) ⊎ (is_some unit.seat ≡ true)

-- it is ready, and all that it reaches is present: its code can be run
pub record IsIntact (rows : List InstRow) (i : ℕ) : Type 0 where
  pub ready : IsReady rows i
  pub present : (j : ℕ) → Reaches rows i j → present_at rows j ≡ true
