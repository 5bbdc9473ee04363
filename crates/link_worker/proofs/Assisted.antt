-- What a seat that assisted has done.
use Rattle.std.proofs.Common.{ℕ, List, Option}
use Rattle.orc_ids.specs.declared.lookup.Outcome.{Outcome}
use Rattle.session_model.specs.Meaning.{Meaning}
use Rattle.session_model.specs.declared.entry.Entry.{Entry}
use Rattle.notifiers.specs.declared.notice.Notice.{Notice}
use Rattle.turn_lock.specs.declared.view.View.{View}
use Rattle.shared_session.specs.Did.{Did}
use Rattle.shared_session.proofs.Doing.{less_is_done}
use Rattle.link_worker.specs.Does.{Does, PlacesLowest, ToldAt}
use Rattle.link_worker.specs.Works.{HasAssisted, Jobs, WholeJobs}
use Rattle.link_worker.specs.declared.work.Worked.{Worked}
use Rattle.link_worker.specs.declared.work.Worked.TheVariants as worked
use Rattle.link_worker.proofs.Telling.{does_less}
use Rattle.link_worker.specs.Assists.{Works}

module _ {U N : Type 0} (means : U → Meaning) (heard : N → Option Outcome) (jmax : ℕ) (v w : View (Entry U)) (old new : List (Notice N)) where
  -- the jobs that were done, whoever was told
  only_jobs : Does means heard v w old new Jobs → Did means v w Works
  only_jobs does = less_is_done means v w (λ h cs. Jobs h cs × ToldAt h cs does.told × PlacesLowest h cs) Works (λ h cs k. (k.0, k.2)) does.did

  whole_jobs : Does means heard v w old new WholeJobs → Does means heard v w old new Jobs
  whole_jobs does = does_less means heard v w old new WholeJobs Jobs (λ h cs k. k.0) does

  pub assisted : (e : Worked) → HasAssisted means heard jmax v w old new e → Did means v w Works
  assisted worked.Did has = absurd has
  assisted worked.Idle has = only_jobs (whole_jobs has)
  assisted (worked.JournalFull len) has = only_jobs has.0
  assisted worked.NoMemory has = only_jobs has

  -- and who was told at them
  pub assisted_telling : (e : Worked) → HasAssisted means heard jmax v w old new e → Does means heard v w old new Jobs
  assisted_telling worked.Did has = absurd has
  assisted_telling worked.Idle has = whole_jobs has
  assisted_telling (worked.JournalFull len) has = has.0
  assisted_telling worked.NoMemory has = has
