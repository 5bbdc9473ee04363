-- The invariant of a session.
use Rattle.std.specs.Prelude.{◌≡◌, ℕ, Bool, true, false, ◌&&◌, ◌||◌, ◌==◌, not, List, [], ◌∷◌, slice_get, filter, Contains, Option, Some, None, is_some, is_none, if◌then◌else◌}
use Rattle.std.specs.Bool.{⊤}
use Rattle.std.specs.Option.{option_map_or}
use Rattle.orc_ids.specs.declared.ids.InstId.{InstId}
use Rattle.orc_ids.specs.declared.lookup.Level.TheVariants as level
use Rattle.session_model.specs.Meaning.{Meaning}
use Rattle.session_model.specs.Plain.{Plain, UnitRow, is_alias, is_unsearched, is_failed, is_emitted, is_defunct, row_test}
use Rattle.session_model.specs.Reach.{deps_at}
use Rattle.session_model.specs.Change.{job_unit}
use Rattle.session_model.specs.State.{state}
use Rattle.session_model.specs.History.{IsLegal}
use Rattle.session_model.specs.declared.entry.Entry.{Entry}
use Rattle.session_model.specs.declared.rows.InstRow.{InstRow}
use Rattle.session_model.specs.declared.rows.Job.{Job}
use Rattle.session_model.specs.declared.rows.Job.TheVariants as job
use Rattle.session_model.specs.declared.rows.Phase.{Phase}
use Rattle.session_model.specs.declared.rows.Phase.TheVariants as phase
use Rattle.session_model.specs.declared.rows.UnitPhase.{UnitPhase}
use Rattle.session_model.specs.declared.rows.UnitPhase.TheVariants as stage
use Rattle.session_model.specs.declared.rows.Query.{Query}

abbrev pub is_claimed : Phase → Bool
is_claimed phase.Claimed = true
is_claimed _ = false

abbrev pub is_resolved : Phase → Bool
is_resolved (phase.Resolved address) = true
is_resolved _ = false

-- the phases of a unit's present instances
abbrev pub fits : UnitPhase → Phase → Bool
fits stage.Unclaimed p = is_unsearched p
fits stage.Listed p = is_claimed p
fits stage.Started p = is_claimed p
fits stage.Placed p = is_claimed p
fits stage.Linking p = is_resolved p
fits stage.Waiting p = is_resolved p
fits stage.Linked p = is_resolved p
fits stage.Finishing p = is_resolved p
fits stage.Done p = is_emitted p || is_failed p
fits stage.Failed p = is_failed p
fits stage.Defunct p = false

-- An alias has no address until its target has one: until then its instances are no further than
-- those of a unit that was started.
abbrev pub until_based : UnitPhase → UnitPhase
until_based stage.Waiting = stage.Started
until_based stage.Linked = stage.Started
until_based stage.Finishing = stage.Started
until_based p = p

abbrev pub is_unbased : UnitRow → Bool
is_unbased x = is_alias x && is_none x.base

-- how far the instances of a unit have come
abbrev pub row_stage : UnitRow → UnitPhase
row_stage x = if is_unbased x then until_based x.phase else x.phase

-- a unit has no base at these phases
abbrev pub is_early : UnitPhase → Bool
is_early stage.Unclaimed = true
is_early stage.Listed = true
is_early stage.Started = true
is_early _ = false

-- the phases at which a unit is held
abbrev pub is_held_phase : UnitPhase → Bool
is_held_phase stage.Started = true
is_held_phase stage.Placed = true
is_held_phase stage.Linking = true
is_held_phase stage.Finishing = true
is_held_phase _ = false

-- work on the instance has begun and not ended
abbrev pub is_underway : Phase → Bool
is_underway p = is_claimed p || is_resolved p

-- it was searched, and didn't fail
abbrev pub is_sure : InstRow → Bool
is_sure r = not (is_unsearched r.phase) && not (is_failed r.phase)

abbrev pub sure_at : List InstRow → ℕ → Bool
sure_at rows i = row_test is_sure rows i

abbrev pub searched_at : List InstRow → ℕ → Bool
searched_at rows i = row_test (λ r. not (is_unsearched r.phase)) rows i

-- A present instance has a unit, which has come as far. No work is under way on one that is gone.
pub record RowFits (units : List UnitRow) (r : InstRow) : Type 0 where
  pub here : r.present ≡ true → (x : UnitRow) × (slice_get units r.unit.0 ≡ Some x) × (fits (row_stage x) r.phase ≡ true)
  pub gone : r.present ≡ false → is_underway r.phase ≡ false

-- the link query of a unit
pub record LinkQuery (queries : List Query) (u : ℕ) (x : UnitRow) : Type 0 where
  pub number : ℕ
  pub query : Query
  pub its : x.query ≡ Some number
  pub there : slice_get queries number ≡ Some query
  pub links : query.unit ≡ Some u
  pub level : query.level ≡ level.Resolved

-- A unit is held exactly at the phases of work, unless it is gone. One that waits has a link query, and
-- one that was only started has no base.
pub record UnitFits (queries : List Query) (u : ℕ) (x : UnitRow) : Type 0 where
  pub seat : is_defunct x.phase ≡ false → is_some x.seat ≡ is_held_phase x.phase
  pub waits : x.phase ≡ stage.Waiting → LinkQuery queries u x
  pub early : is_early x.phase ≡ true → x.base ≡ None

-- the jobs of a unit, by its phase
abbrev pub due_at : ℕ → UnitPhase → List Job
due_at u stage.Listed = job.Start (record { 0 = u }) ∷ []
due_at u stage.Linked = job.Finish (record { 0 = u }) ∷ []
due_at u _ = []

abbrev pub due : ℕ → List UnitRow → List Job
due u units = option_map_or (λ x. due_at u x.phase) (slice_get units u) []

-- the listed jobs of a unit
abbrev pub its_jobs : ℕ → List Job → List Job
its_jobs u jobs = filter (λ j. job_unit j == u) jobs

-- something holds of each instance that was matched
abbrev pub AllMatched : (ℕ → Type 0) → List (Option InstId) → Type 0
AllMatched P [] = ⊤
AllMatched P (None ∷ os) = AllMatched P os
AllMatched P (Some i ∷ os) = P i.0 × AllMatched P os

-- The invariant, of a session's instances, units, queries and jobs.
pub record Sound (rows : List InstRow) (units : List UnitRow) (queries : List Query) (jobs : List Job) : Type 0 where
  -- each instance fits its unit
  pub rows_fit : (i : ℕ) (r : InstRow) → slice_get rows i ≡ Some r → RowFits units r
  -- each recorded dependency was searched, and didn't fail
  pub deps : (i j : ℕ) → Contains (deps_at rows i) j → sure_at rows j ≡ true
  -- each unit is held or waits as its phase says
  pub units_fit : (u : ℕ) (x : UnitRow) → slice_get units u ≡ Some x → UnitFits queries u x
  -- it has just the job that its phase says, once
  pub jobs_due : (u : ℕ) → its_jobs u jobs ≡ due u units
  -- what a query matched was searched
  pub searched : (k : ℕ) (q : Query) → slice_get queries k ≡ Some q → AllMatched (λ i. searched_at rows i ≡ true) q.matched

abbrev pub IsSound : Plain → Type 0
IsSound m = Sound m.rows m.units m.queries m.jobs

-- the session after a legal history is sound
abbrev pub LegalIsSound : Type 0
LegalIsSound = (jmax : ℕ) (h : List (Entry Meaning)) → IsLegal jmax h → IsSound (state h)
