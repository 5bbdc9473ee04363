-- The session after a history, and where a query settles in it.
use Rattle.std.specs.Prelude.{◌≡◌, ℕ, ◌+◌, ◌<◌, ◌≤◌, true, false, List, [], ◌∷◌, length, take, slice_get, map, Some}
use Rattle.session_model.specs.Meaning.{Meaning}
use Rattle.session_model.specs.Plain.{Plain, Query, empty}
use Rattle.session_model.specs.Query.{Ending, ending, is_met}
use Rattle.session_model.specs.Change.{change_of, changed, settled}
use Rattle.session_model.specs.declared.entry.Entry.{Entry}
use Rattle.session_model.specs.declared.entry.Event.{Event}
use Rattle.session_model.specs.declared.entry.Event.TheVariants as event

-- an event with the meaning of its unit in the place of the unit
abbrev pub plain_event : {U : Type 0} → (U → Meaning) → Event U → Event Meaning
plain_event means (event.Dylib name) = event.Dylib name
plain_event means (event.SetOrder d order) = event.SetOrder d order
plain_event means (event.Attach d t u) = event.Attach d t (means u)
plain_event means (event.Define d t u) = event.Define d t (means u)
plain_event means (event.Generate g) = event.Generate g
plain_event means (event.Ask order wanted level note) = event.Ask order wanted level note
plain_event means (event.Collect q) = event.Collect q
plain_event means event.Take = event.Take
plain_event means (event.Place u shape) = event.Place u shape
plain_event means (event.Resolve u) = event.Resolve u
plain_event means (event.Emit u groups) = event.Emit u groups
plain_event means (event.Fail u why) = event.Fail u why
plain_event means (event.Tracker d) = event.Tracker d
plain_event means (event.MoveTracker t to) = event.MoveTracker t to
plain_event means (event.Remove t) = event.Remove t
plain_event means event.Image = event.Image
plain_event means (event.Link u) = event.Link u

abbrev pub plain_entry : {U : Type 0} → (U → Meaning) → Entry U → Entry Meaning
plain_entry means e = record { seat = e.seat; event = plain_event means e.event; reply = e.reply }

abbrev pub plain_history : {U : Type 0} → (U → Meaning) → List (Entry U) → List (Entry Meaning)
plain_history means h = map (plain_entry means) h

-- the session after one more entry
abbrev pub after : Plain → Entry Meaning → Plain
after m e = record (settled (changed (change_of m e.seat.0 e.event e.reply) m)) { entries = m.entries + 1 }

abbrev pub state_from : Plain → List (Entry Meaning) → Plain
state_from m [] = m
state_from m (e ∷ es) = state_from (after m e) es

-- the session after a history
abbrev pub state : List (Entry Meaning) → Plain
state h = state_from empty h

-- The query settles at entry n: the first one, from its own entry on, after which its end is decided.
pub record SettlesAt (h : List (Entry Meaning)) (q : Query) (n : ℕ) : Type 0 where
  pub from : q.asked ≤ n
  pub here : n ≤ length h
  pub met : is_met (state (take n h)).rows q ≡ true
  pub first : (k : ℕ) → q.asked ≤ k → k < n → is_met (state (take k h)).rows q ≡ false

-- it hasn't settled yet
pub record IsOpen (h : List (Entry Meaning)) (q : Query) : Type 0 where
  pub unmet : (k : ℕ) → q.asked ≤ k → k ≤ length h → is_met (state (take k h)).rows q ≡ false

-- the query of this number settled at entry n, with this end
pub record IsEnd (h : List (Entry Meaning)) (number n : ℕ) (end : Ending) : Type 0 where
  pub query : Query
  pub there : slice_get (state h).queries number ≡ Some query
  pub settles : SettlesAt h query n
  pub ends : ending (state (take n h)).rows query ≡ end
