-- What leaves a pass without a unit.
use Rattle.std.specs.Prelude.{◌≡◌, ℕ, Bool, true, false, Result}
use Rattle.orc_ids.specs.declared.lookup.Stop.{Stop}
use Rattle.session_model.specs.Meaning.{Meaning}
use Rattle.session_model.specs.State.{plain_event}
use Rattle.session_model.specs.declared.entry.Entry.{Entry}
use Rattle.session_model.specs.declared.entry.Event.{Event}
use Rattle.session_model.specs.declared.entry.Event.TheVariants as event
use Rattle.session_model.specs.declared.entry.Reply.{Reply}
use Rattle.session_steps.specs.Performs.{Performs}
use Rattle.turn_lock.specs.declared.view.View.{View}
use Rattle.turn_lock.specs.Passes.{Turned}
use Rattle.turn_lock.specs.Told.{Reads, Shows}
use Rattle.turn_lock.specs.Views.{sees}
use Rattle.shared_session.specs.Does.{seat}
use Rattle.shared_session.specs.Home.{IsLawful, IsPosted, seat_of}
use Rattle.link_worker.specs.Works.{IsFree}

abbrev pub is_take : Event Meaning → Bool
is_take event.Take = true
is_take e = false

-- a pass that holds no unit, and made another call than a take, holds none
abbrev pub FreeStays : {U : Type 0} → (U → Meaning) → Type 0
FreeStays {U} means = (jmax : ℕ) (v w : View (Entry U)) (e : Event U) (answer : Result Reply Stop) →
    Turned seat_of (IsLawful means jmax) (IsPosted means) v w (λ old new. Performs means jmax old new (seat v.number) e answer) → is_take (plain_event means e) ≡ false → IsFree means v → IsFree means w

-- so does one that has only seen the history again
abbrev pub FreeLooks : {U : Type 0} → (U → Meaning) → Type 0
FreeLooks {U} means = (jmax : ℕ) (v w : View (Entry U)) → w ≡ sees w.seen v → Shows seat_of (IsLawful means jmax) (IsPosted means) w.seen v → IsFree means v → IsFree means w

-- or read a post
abbrev pub FreeReads : {U : Type 0} → (U → Meaning) → Type 0
FreeReads {U} means = (jmax i word : ℕ) (v w : View (Entry U)) → Reads seat_of (IsLawful means jmax) (IsPosted means) i word v w → IsFree means v → IsFree means w
