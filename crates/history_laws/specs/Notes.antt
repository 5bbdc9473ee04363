-- The notes of lookups: which query has one, and what is told to it.
use Rattle.std.specs.Prelude.{◌≡◌, ℕ, ◌↔◌, true, List, [], ◌∷◌, ◌++◌, length, slice_get, map, flat_map, take, Option, None, Some, option_map, option_and_then}
use Rattle.std.specs.Option.{option_map_or}
use Rattle.orc_ids.specs.declared.lookup.Outcome.{Outcome}
use Rattle.session_model.specs.Meaning.{Meaning}
use Rattle.session_model.specs.Query.{ending}
use Rattle.session_model.specs.State.{state, IsOpen, IsEnd}
use Rattle.session_model.specs.declared.entry.Entry.{Entry}
use Rattle.session_model.specs.declared.entry.Event.{Event}
use Rattle.session_model.specs.declared.entry.Event.TheVariants as event
use Rattle.session_model.specs.declared.rows.Ending.{Ending}
use Rattle.session_model.specs.declared.rows.Query.{Query}
use Rattle.notifiers.specs.declared.notice.Notice.{Notice}
use Rattle.notifiers.specs.declared.notice.Unheard.{Unheard}
use Rattle.query_book.specs.Ends.{told_end}
use Rattle.closure_laws.specs.Quiet.{SettlesNow}
use Rattle.session_steps.specs.Fires.{AreRising, is_one_of}

-- the note that an event asks with
abbrev pub event_note : Event Meaning → Option ℕ
event_note (event.Ask order wanted level note) = note
event_note e = None

-- the notifier that is kept for a query
abbrev pub armed_at : {N : Type 0} → List (Option (Unheard N)) → ℕ → Option (Unheard N)
armed_at armed k = option_and_then (λ o. o) (slice_get armed k)

-- Each query that hasn't settled has its notifier, with its note, and one that settled has none any more.
pub record AreNoted {N : Type 0} (h : List (Entry Meaning)) (armed : List (Option (Unheard N))) : Type 0 where
  pub count : length armed ≡ length (state h).queries
  pub waiting : (k : ℕ) (q : Query) → slice_get (state h).queries k ≡ Some q → IsOpen h q → option_map (λ a. a.note) (armed_at armed k) ≡ q.note
  pub settled : (k n : ℕ) (end : Ending) → IsEnd h k n end → armed_at armed k ≡ None

-- what the note of query k hears at a history's last entry, if the query has one: the query's number, and how it ended there
abbrev pub heard : List (Entry Meaning) → ℕ → List (ℕ × Outcome)
heard h k = option_map_or
    (λ (q : Query). option_map_or (λ note. (note, record { query = record { 0 = k }; end = told_end (state h).entries (ending (state h).rows q) }) ∷ []) q.note [])
    (slice_get (state h).queries k) []

-- Just the notes of the queries that settle at the last entry are told, in the queries' rising number.
pub record AreTold {N : Type 0} (h : List (Entry Meaning)) (fires : List (Notice N)) : Type 0 where
  pub numbers : List ℕ
  pub rising : AreRising 0 numbers
  pub settle : (k : ℕ) → (is_one_of k numbers ≡ true) ↔ SettlesNow h k
  pub told : map (λ f. (f.note, f.outcome)) fires ≡ flat_map (heard h) numbers

-- at each of these calls of the history these notices were told: those of the queries that settle there
pub data ToldAt {N : Type 0} (h : List (Entry Meaning)) : List (ℕ × Entry Meaning) → List (Notice N) → Type 0 where
  Nobody : ToldAt h [] []
  Call : (n : ℕ) (e : Entry Meaning) (cs : List (ℕ × Entry Meaning)) (now later : List (Notice N)) → AreTold (take n h) now → ToldAt h cs later → ToldAt h ((n, e) ∷ cs) (now ++ later)
