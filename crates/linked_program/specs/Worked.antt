-- What was done with a program, by a history that its seats know.
use Rattle.std.specs.Prelude.{◌≡◌, ◌<◌, ◌+◌, ℕ, List, ◌==◌, Option, Some, None, if◌then◌else◌}
use Rattle.orc_ids.specs.declared.ids.NameId.{NameId}
use Rattle.session_model.specs.Meaning.{Meaning}
use Rattle.session_model.specs.State.{plain_history}
use Rattle.session_model.specs.declared.entry.Entry.{Entry}
use Rattle.turn_lock.specs.declared.view.View.{View}
use Rattle.linked_program.specs.Ends.{IsPossible, Concludes}
use Rattle.crew.specs.Crew.{IsKept, IsNew, Says}
use Rattle.shared_session.specs.Home.{seat_of}
use Rattle.link_worker.specs.Works.{IsFree}
use Rattle.linked_program.specs.Members.{HasServed}
use Rattle.run_laws.specs.Ended.{IsRun}
use Rattle.linked_program.specs.declared.concluding.Outcome.{Outcome}
use Rattle.linked_program.specs.declared.client.ClientEnd.{ClientEnd}
use Rattle.run_laws.specs.declared.linked.Linked.{Linked}

module _ {U : Type 0} (means : U → Meaning) (jmax : ℕ) where
  -- a seat behind the first, from when it was given out to the end
  pub record IsMember (entry : NameId) (seen : List (Entry U)) (log : List (Entry U)) (number : ℕ) (client : Option ClientEnd) : Type 0 where
    pub before : View (Entry U)
    pub after : View (Entry U)
    pub new : IsNew number seen before
    pub same : after.number ≡ number
    pub served : HasServed means jmax entry (number == 1) before after client
    pub free : IsFree means after
    pub kept : IsKept seat_of log after

  -- the first seat knew v before the members worked; each worked, and this is what the client's lookup came to
  pub record MembersWorked (workers : ℕ) (entry : NameId) (v : View (Entry U)) (log : List (Entry U)) (client : ClientEnd) : Type 0 where
    pub first : Says seat_of log v
    pub member : (number : ℕ) → 0 < number → number < workers + 2 → IsMember entry v.seen log number (if number == 1 then Some client else None)

  -- the run that it was
  abbrev pub IsRunOf : ℕ → NameId → NameId → List Meaning → List (Entry U) → Outcome → Type 0
  IsRunOf workers main entry units log o = IsPossible o × ((end : Linked) → Concludes o end → IsRun jmax workers main entry units (plain_history means log) end)
