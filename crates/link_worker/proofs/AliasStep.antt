-- What a job knows after its alias was resolved.
use Rattle.std.proofs.Common.{ℕ, List, Option, Result, Ok, Err}
use Rattle.orc_ids.specs.declared.lookup.Outcome.{Outcome}
use Rattle.orc_ids.specs.declared.lookup.Stop.{Stop}
use Rattle.session_model.specs.Meaning.{Meaning}
use Rattle.session_model.specs.declared.entry.Entry.{Entry}
use Rattle.session_model.specs.declared.entry.Event.TheVariants as event
use Rattle.session_model.specs.declared.entry.Reply.{Reply}
use Rattle.session_model.specs.declared.entry.Reply.TheVariants as reply
use Rattle.notifiers.specs.declared.notice.Notice.{Notice}
use Rattle.turn_lock.specs.declared.view.View.{View}
use Rattle.shared_session.specs.Does.{Tells}
use Rattle.materialization.specs.declared.stage.Stage.TheVariants as stage
use Rattle.link_worker.specs.Jobs.{IsJobAt}
use Rattle.link_worker.specs.declared.job.Job.{Job}
use Rattle.link_worker.proofs.Aliasing.{alias_finishes}
use Rattle.link_worker.proofs.Stepping.{KnowsNext}
use Rattle.link_worker.proofs.Turning.{TurnOf}

pub alias_knows : {U N : Type 0} (means : U → Meaning) (hears : N → Option Outcome) (jmax : ℕ) (v w : View (Entry U)) (job : Job U) (has : IsJobAt means jmax v job stage.ResolveAlias) (answer : Result Reply Stop) (fires : List (Notice N)) →
    TurnOf means jmax v w (λ old new. Tells means jmax v.number old new (event.Resolve job.unit) answer fires) → KnowsNext means hears jmax v w job stage.ResolveAlias has answer
alias_knows means hears jmax v w job has (Ok reply.Resolved) fires t = alias_finishes means jmax v w job has.knows _ t t.did.performs.grown
alias_knows means hears jmax v w job has (Ok r) fires t = tt
alias_knows means hears jmax v w job has (Err st) fires t = tt
