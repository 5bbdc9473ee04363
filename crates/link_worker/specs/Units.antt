-- What a unit is handed for its emission, or why it can't be emitted.
use Rattle.std.specs.Prelude.{◌≡◌, ⊤, Option, Some, Result, Ok, Err, unwrap_or}
use Rattle.orc_ids.specs.declared.lookup.Stop.{Stop}
use Rattle.orc_ids.specs.declared.lookup.Stop.TheVariants as stop
use Rattle.session_model.specs.Meaning.{Meaning, Refusal}
use Rattle.session_model.specs.declared.entry.Why.TheVariants as why
use Rattle.materialization.specs.declared.stage.Stage.{Stage}
use Rattle.materialization.specs.declared.stage.Stage.TheVariants as stage
use Rattle.unit_fixups.specs.declared.apply.FixError.{FixError}
use Rattle.unit_fixups.specs.declared.apply.FixError.TheVariants as fix
use Rattle.link_worker.specs.declared.unit.FinishError.{FinishError}
use Rattle.link_worker.specs.declared.unit.FinishError.TheVariants.{Refused, NoMemory}
use Rattle.link_worker.specs.declared.job.Job.{Job}

-- a refusal names the edge; want of memory says nothing of it
abbrev pub Refuses : FinishError → Option Refusal → Type 0
Refuses (Refused place kind v) edge = edge ≡ Some (place, kind, v)
Refuses NoMemory edge = ⊤

-- the first edge of a job's unit that is out of range
abbrev pub own_refusal : {U : Type 0} → (U → Meaning) → Job U → Option Refusal
own_refusal means job = (means job.taken.share).refusal job.taken.live (unwrap_or job.taken.base 0) job.bound

-- what follows where a unit can't be finished
abbrev pub unfinished : FinishError → Result Stage Stop
unfinished (Refused place kind v) = Ok (stage.Fail (why.Refused place kind v))
unfinished NoMemory = Err stop.NoMemory

-- why a unit can't be finished, by why its bytes can't be
abbrev pub unfixed : FixError → FinishError
unfixed (fix.OutOfRange place kind v) = Refused place kind v
unfixed fix.NoMemory = NoMemory
