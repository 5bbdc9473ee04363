-- What one call of a session does: a step of the definitions, or nothing.
use Rattle.std.specs.Prelude.{◌≡◌, ℕ, ◌+◌, nat_lt, Bool, true, false, List, [], ◌∷◌, ◌++◌, length, slice_get, Some, Result, Ok, Err}
use Rattle.orc_ids.specs.declared.ids.QueryId.{QueryId}
use Rattle.orc_ids.specs.declared.ids.SeatNo.{SeatNo}
use Rattle.orc_ids.specs.declared.lookup.Stop.{Stop}
use Rattle.orc_ids.specs.declared.lookup.Stop.TheVariants.{JournalFull, NoMemory}
use Rattle.session_model.specs.Meaning.{Meaning}
use Rattle.session_model.specs.Plain.{Plain, kept}
use Rattle.session_model.specs.State.{state, plain_event, plain_history, IsOpen}
use Rattle.session_model.specs.Answer.{Answers}
use Rattle.session_model.specs.History.{is_full}
use Rattle.session_model.specs.declared.entry.Entry.{Entry}
use Rattle.session_model.specs.declared.entry.Event.{Event}
use Rattle.session_model.specs.declared.entry.Event.TheVariants as event
use Rattle.session_model.specs.declared.entry.Reply.{Reply}
use Rattle.session_model.specs.declared.entry.Reply.TheVariants as reply
use Rattle.session_model.specs.declared.rows.Query.{Query}

-- the session after a journal
abbrev pub state_of : {U : Type 0} → (U → Meaning) → List (Entry U) → Plain
state_of means h = state (plain_history means h)

-- there are no places for so many more entries, beside those of the held units
abbrev pub lacks_places : {U : Type 0} → (U → Meaning) → ℕ → List (Entry U) → ℕ → Bool
lacks_places means jmax h n = nat_lt jmax ((state_of means h).entries + kept (state_of means h) + n)

-- the journal has a place for the entry, whose reply is a right one, and has gained just it
pub record Enters {U : Type 0} (means : U → Meaning) (jmax : ℕ) (old new : List (Entry U)) (e : Entry U) : Type 0 where
  pub place : is_full jmax (state_of means old) e.seat.0 (plain_event means e.event) ≡ false
  pub answered : Answers jmax (plain_history means old) (state_of means old) e.seat.0 (plain_event means e.event) e.reply
  pub grown : new ≡ old ++ e ∷ []

-- the journal, of so many entries, has no place for the event's
pub record IsFullAt {U : Type 0} (means : U → Meaning) (jmax : ℕ) (old : List (Entry U)) (s : SeatNo) (e : Event U) (len : ℕ) : Type 0 where
  pub length : len ≡ length old
  pub full : is_full jmax (state_of means old) s.0 (plain_event means e) ≡ true

-- the call was stopped, and nothing has changed: no place is left, or memory ran out
abbrev pub IsStopped : {U : Type 0} → (U → Meaning) → ℕ → List (Entry U) → List (Entry U) → SeatNo → Event U → Stop → Type 0
IsStopped means jmax old new s e (JournalFull len) = (new ≡ old) × IsFullAt means jmax old s e len
IsStopped means jmax old new s e NoMemory = new ≡ old

-- the event was answered by an entry, or stopped
abbrev pub Performs : {U : Type 0} → (U → Meaning) → ℕ → List (Entry U) → List (Entry U) → SeatNo → Event U → Result Reply Stop → Type 0
Performs means jmax old new s e (Ok r) = Enters means jmax old new (record { seat = s; event = e; reply = r })
Performs means jmax old new s e (Err stop) = IsStopped means jmax old new s e stop

-- the same of an event that is handed a unit, of which its entry has a share
abbrev pub PerformsWith : {U : Type 0} → (U → Meaning) → ℕ → List (Entry U) → List (Entry U) → SeatNo → (U → Event U) → U → Result Reply Stop → Type 0
PerformsWith {U} means jmax old new s event_of unit result = (share : U) × (means share ≡ means unit) × Performs means jmax old new s (event_of share) result

-- a query that is there and hasn't settled
pub record HasOpen {U : Type 0} (means : U → Meaning) (h : List (Entry U)) (q : QueryId) : Type 0 where
  pub query : Query
  pub there : slice_get (state_of means h).queries q.0 ≡ Some query
  pub unsettled : IsOpen (plain_history means h) query

-- a collect is answered Open, without an entry and whether or not there is a place or memory, exactly
-- while its query hasn't settled
abbrev pub Collects : {U : Type 0} → (U → Meaning) → ℕ → List (Entry U) → List (Entry U) → SeatNo → QueryId → Result Reply Stop → Type 0
Collects means jmax old new s q (Ok reply.Open) = (new ≡ old) × HasOpen means old q
Collects means jmax old new s q (Err (JournalFull len)) = IsStopped means jmax old new s (event.Collect q) (JournalFull len) × (HasOpen means old q → ⊥)
Collects means jmax old new s q (Err NoMemory) = (new ≡ old) × (HasOpen means old q → ⊥)
Collects means jmax old new s q result = Performs means jmax old new s (event.Collect q) result

-- a take is answered Idle, without an entry and whether or not there is a place or memory, exactly where
-- no job is listed
abbrev pub Takes : {U : Type 0} → (U → Meaning) → ℕ → List (Entry U) → List (Entry U) → SeatNo → Result Reply Stop → Type 0
Takes means jmax old new s (Ok (reply.Idle held)) = (new ≡ old) × ((state_of means old).jobs ≡ []) × (held ≡ kept (state_of means old))
Takes means jmax old new s (Err (JournalFull len)) = IsStopped means jmax old new s event.Take (JournalFull len) × ((state_of means old).jobs ≡ [] → ⊥)
Takes means jmax old new s (Err NoMemory) = (new ≡ old) × ((state_of means old).jobs ≡ [] → ⊥)
Takes means jmax old new s result = Performs means jmax old new s event.Take result
