-- Jobs that a seat does for others.
use Rattle.session_model.specs.Meaning.{Meaning}
use Rattle.session_model.specs.declared.entry.Entry.{Entry}
use Rattle.turn_lock.specs.declared.view.View.{View}
use Rattle.shared_session.specs.Did.{Did, Promise}
use Rattle.link_worker.specs.Does.{PlacesLowest}
use Rattle.link_worker.specs.Works.{Jobs}

-- the calls of jobs
abbrev pub Works : Promise
Works h cs = Jobs h cs × PlacesLowest h cs

-- jobs were done
abbrev pub HasDoneJobs : {U : Type 0} → (U → Meaning) → View (Entry U) → View (Entry U) → Type 0
HasDoneJobs means v w = Did means v w Works
