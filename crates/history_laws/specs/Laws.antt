-- What an event leaves of the notes, and what it tells.
use Rattle.std.specs.Prelude.{◌≡◌, ℕ, ◌-◌, Bool, true, false, List, [], slice_get, Option, Some, option_map, option_and_then, Result, Ok, Err}
use Rattle.orc_ids.specs.declared.ids.QueryId.{QueryId}
use Rattle.orc_ids.specs.declared.ids.SeatNo.{SeatNo}
use Rattle.orc_ids.specs.declared.lookup.Stop.{Stop}
use Rattle.session_model.specs.Meaning.{Meaning}
use Rattle.session_model.specs.State.{state, plain_event, plain_history}
use Rattle.session_model.specs.History.{IsLegal}
use Rattle.session_model.specs.declared.entry.Entry.{Entry}
use Rattle.session_model.specs.declared.entry.Event.{Event}
use Rattle.session_model.specs.declared.entry.Event.TheVariants as event
use Rattle.session_model.specs.declared.entry.Reply.{Reply}
use Rattle.session_model.specs.declared.rows.Query.{Query}
use Rattle.notifiers.specs.declared.notice.Notice.{Notice}
use Rattle.notifiers.specs.declared.notice.Unheard.{Unheard}
use Rattle.session_steps.specs.Fires.{FiresBy, FiresAsked}
use Rattle.session_steps.specs.Log.{Log}
use Rattle.session_steps.specs.Performs.{Performs, Takes, Collects}
use Rattle.history_laws.specs.Notes.{event_note, AreNoted, AreTold}

-- the events that may settle a query
abbrev pub may_settle : {U : Type 0} → Event U → Bool
may_settle (event.Ask order wanted level _) = true
may_settle (event.Resolve u) = true
may_settle (event.Link u) = true
may_settle (event.Emit u groups) = true
may_settle (event.Fail u why) = true
may_settle (event.Remove t) = true
may_settle e = false

-- the events that may lodge a query
abbrev pub may_lodge : {U : Type 0} → Event U → Bool
may_lodge (event.Ask order wanted level _) = true
may_lodge (event.Link u) = true
may_lodge e = false

-- a session has the notifiers of its notes
abbrev pub LogIsNoted : {U N : Type 0} → (U → Meaning) → Log U N → Type 0
LogIsNoted means log = AreNoted (plain_history means log.journal) log.armed

-- an event that was answered has told the notes that it should; one that was stopped has told none
abbrev pub TellsBy : {U N : Type 0} → (U → Meaning) → List (Entry U) → Result Reply Stop → List (Notice N) → Type 0
TellsBy means new (Ok r) fires = AreTold (plain_history means new) fires
TellsBy means new (Err stop) fires = fires ≡ []

-- a query's note is that of the entry which asked it
abbrev pub NoteIsAsked : Type 0
NoteIsAsked = (h : List (Entry Meaning)) (k : ℕ) (q : Query) → slice_get (state h).queries k ≡ Some q →
    q.note ≡ option_and_then (λ e. event_note e.event) (slice_get h (q.asked - 1))

-- a session with no entry has no notes
abbrev pub EmptyIsNoted : Type 0 → Type 0
EmptyIsNoted N = AreNoted {N = N} [] []

-- an event that settles nothing leaves the notes as they are
abbrev pub QuietIsNoted : {U : Type 0} → (U → Meaning) → Type 0 → Type 0
QuietIsNoted {U} means N = (jmax : ℕ) (old new : Log U N) (s : SeatNo) (e : Event U) (answer : Result Reply Stop) →
    IsLegal jmax (plain_history means old.journal) → LogIsNoted means old → may_settle e ≡ false → new.armed ≡ old.armed →
    Performs means jmax old.journal new.journal s e answer → LogIsNoted means new

-- an event that lodges no query has told the notes of those that it settled
abbrev pub SettlingIsTold : {U : Type 0} → (U → Meaning) → Type 0 → Type 0
SettlingIsTold {U} means N = (jmax : ℕ) (old new : Log U N) (s : SeatNo) (e : Event U) (answer : Result Reply Stop) (fires : List (Notice N)) →
    IsLegal jmax (plain_history means old.journal) → LogIsNoted means old → may_lodge e ≡ false →
    Performs means jmax old.journal new.journal s e answer → FiresBy means answer old new fires →
    LogIsNoted means new × TellsBy means new.journal answer fires

-- so has one that may lodge a query, with a notifier of the event's note
abbrev pub LodgingIsTold : {U : Type 0} → (U → Meaning) → Type 0 → Type 0
LodgingIsTold {U} means N = (jmax : ℕ) (old new : Log U N) (s : SeatNo) (e : Event U) (answer : Result Reply Stop) (then' : Option (Unheard N)) (fires : List (Notice N)) →
    IsLegal jmax (plain_history means old.journal) → LogIsNoted means old → option_map (λ a. a.note) then' ≡ event_note (plain_event means e) →
    Performs means jmax old.journal new.journal s e answer → FiresAsked means then' answer old new fires →
    LogIsNoted means new × TellsBy means new.journal answer fires

-- a collect and a take leave them, whatever they are answered
abbrev pub CollectIsNoted : {U : Type 0} → (U → Meaning) → Type 0 → Type 0
CollectIsNoted {U} means N = (jmax : ℕ) (old new : Log U N) (s : SeatNo) (q : QueryId) (answer : Result Reply Stop) →
    IsLegal jmax (plain_history means old.journal) → LogIsNoted means old → new.armed ≡ old.armed →
    Collects means jmax old.journal new.journal s q answer → LogIsNoted means new

abbrev pub TakeIsNoted : {U : Type 0} → (U → Meaning) → Type 0 → Type 0
TakeIsNoted {U} means N = (jmax : ℕ) (old new : Log U N) (s : SeatNo) (answer : Result Reply Stop) →
    IsLegal jmax (plain_history means old.journal) → LogIsNoted means old → new.armed ≡ old.armed →
    Takes means jmax old.journal new.journal s answer → LogIsNoted means new
