-- Units that are handed out with their jobs.
use Rattle.std.specs.Prelude.{◌≡◌, ⊤, ℕ, Bool, false, count_by, length, slice_get, List, Option, Some, None, Result, Ok}
use Rattle.orc_ids.specs.declared.ids.UnitId.{UnitId}
use Rattle.orc_ids.specs.declared.lookup.Stop.{Stop}
use Rattle.session_model.specs.Meaning.{Meaning}
use Rattle.session_model.specs.Plain.{Plain, UnitRow, own_rows, is_defunct}
use Rattle.session_model.specs.Change.{bindings_of}
use Rattle.session_model.specs.declared.entry.Finishing.{Finishing}
use Rattle.session_model.specs.declared.entry.Finishing.TheVariants as finishing
use Rattle.session_model.specs.declared.entry.Reply.{Reply}
use Rattle.session_model.specs.declared.entry.Reply.TheVariants as reply
use Rattle.session_model.specs.declared.rows.Ending.{Ending}
use Rattle.session_model.specs.declared.rows.Ending.TheVariants as ending
use Rattle.session_model.specs.declared.rows.UnitPhase.TheVariants as stage
use Rattle.query_book.specs.declared.ends.QueryEnd.{QueryEnd}
use Rattle.session_steps.specs.declared.jobs.TakenUnit.{TakenUnit}

-- a share of the unit, its live names, its instances and its base: a flag for each name that it
-- offers, and an instance for each live one
pub record IsUnitOf {U : Type 0} (means : U → Meaning) (m : Plain) (u : UnitId) (taken : TakenUnit U) : Type 0 where
  pub unit : UnitRow
  pub there : slice_get m.units u.0 ≡ Some unit
  pub share : means taken.share ≡ unit.meaning
  pub live : taken.live ≡ unit.live
  pub instances : taken.instances ≡ own_rows u.0 0 m.rows
  pub base : taken.base ≡ unit.base
  pub flags : length taken.live ≡ length (means taken.share).offers
  pub owned : length taken.instances ≡ count_by (λ (b : Bool). b) taken.live

abbrev pub IfSomeUnit : {U : Type 0} → (U → Meaning) → Plain → UnitId → Option (TakenUnit U) → Type 0
IfSomeUnit means m u (Some taken) = IsUnitOf means m u taken
IfSomeUnit means m u None = ⊥

-- with a job comes its unit
abbrev pub GivesUnit : {U : Type 0} → (U → Meaning) → Plain → Result Reply Stop → Option (TakenUnit U) → Type 0
GivesUnit means m (Ok (reply.Start u)) given = IfSomeUnit means m u given
GivesUnit means m (Ok (reply.Finish u how)) given = IfSomeUnit means m u given
GivesUnit means m answer given = given ≡ None

-- the unit that is handed out to be finished has the bindings of the reply
abbrev pub BindsUnit : Plain → Result Reply Stop → Type 0
BindsUnit m (Ok (reply.Finish u how)) = (x : UnitRow) → slice_get m.units u.0 ≡ Some x → x.bound ≡ bindings_of how
BindsUnit m answer = ⊤

-- how a unit's link query ended, for its holder
abbrev pub finishing_of : Ending → Finishing
finishing_of (ending.Found matches) = finishing.Bound matches
finishing_of (ending.Lost i) = finishing.Lost i

-- the end of a unit's link query is kept
pub record LinkEnd (m : Plain) (ends : List (Option QueryEnd)) (u : ℕ) : Type 0 where
  pub unit : UnitRow
  pub there : slice_get m.units u ≡ Some unit
  pub query : ℕ
  pub its : unit.query ≡ Some query
  pub end : QueryEnd
  pub ended : slice_get ends query ≡ Some (Some end)

-- each unit that is linked has its link query's end, and each that isn't gone an instance for each live name
pub record CanHandOut (m : Plain) (ends : List (Option QueryEnd)) : Type 0 where
  pub ended : (u : ℕ) (x : UnitRow) → slice_get m.units u ≡ Some x → x.phase ≡ stage.Linked → LinkEnd m ends u
  pub owned : (u : ℕ) (x : UnitRow) → slice_get m.units u ≡ Some x → is_defunct x.phase ≡ false → length (own_rows u 0 m.rows) ≡ count_by (λ (b : Bool). b) x.live
