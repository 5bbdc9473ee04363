-- Who is told at the calls of a seat.
use Rattle.std.specs.Prelude.{◌≡◌, ℕ, true, List, All, slice_get, Some}
use Rattle.orc_ids.specs.declared.lookup.Outcome.{Outcome}
use Rattle.session_model.specs.Calls.{numbered_calls}
use Rattle.session_model.specs.History.{IsLegal}
use Rattle.session_model.specs.Meaning.{Meaning}
use Rattle.session_model.specs.declared.entry.Entry.{Entry}
use Rattle.notifiers.specs.declared.notice.Notice.{Notice}
use Rattle.history_laws.specs.Laws.{may_settle}
use Rattle.history_laws.specs.Notes.{ToldAt}
use Rattle.history_laws.specs.Notices.{NoteEnded}

-- all that were told have ended queries
abbrev pub ToldHaveEnded : Type 0 → Type 0
ToldHaveEnded N = (h : List (Entry Meaning)) (seat : ℕ) (told : List (Notice N)) → ToldAt h (numbered_calls seat 1 h) told → All (λ f. NoteEnded h f.note f.outcome) told

-- the note is among those that were told, with this outcome
abbrev pub IsAmong : {N : Type 0} → ℕ → Outcome → List (Notice N) → Type 0
IsAmong {N} note outcome told = (k : ℕ) × (f : Notice N) × (slice_get told k ≡ Some f) × (f.note ≡ note) × (f.outcome ≡ outcome)

-- the entry may have ended a query, and whoever told at the calls of its seat has told the note
pub record TellsNote (N : Type 0) (h : List (Entry Meaning)) (note : ℕ) (outcome : Outcome) : Type 0 where
  pub number : ℕ
  pub entry : Entry Meaning
  pub there : slice_get h number ≡ Some entry
  pub may : may_settle entry.event ≡ true
  pub tells : (told : List (Notice N)) → ToldAt h (numbered_calls entry.seat.0 1 h) told → IsAmong note outcome told

-- the ends of all notes' queries were told
abbrev pub EndedAreTold : Type 0 → Type 0
EndedAreTold N = (jmax : ℕ) (h : List (Entry Meaning)) (note : ℕ) (outcome : Outcome) → IsLegal jmax h → NoteEnded h note outcome → TellsNote N h note outcome
