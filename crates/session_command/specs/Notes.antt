-- Which of the notifiers of a script were told, and what, and where they come back.
use Rattle.std.specs.Prelude.{◌≡◌, ℕ, List, length, slice_get, Option, Some, None}
use Rattle.orc_ids.specs.declared.lookup.Outcome.{Outcome}
use Rattle.session_model.specs.Meaning.{Meaning}
use Rattle.session_model.specs.declared.entry.Entry.{Entry}
use Rattle.history_laws.specs.Notices.{NoteEnded}
use Rattle.notifiers.specs.Heard.{AreInOrder}
use Rattle.notifiers.specs.declared.notes.Noted.{Noted}
use Rattle.notifiers.specs.declared.notes.Noted.TheVariants.{Fired, Unfired}

-- the notifier with this note has heard the end of the query that was asked with it, or nothing, where there is no such end
abbrev pub HasHeardBy : {N : Type 0} → (N → Option Outcome) → List (Entry Meaning) → ℕ → Noted N → Type 0
HasHeardBy heard h note (Fired what) = (outcome : Outcome) × NoteEnded h note outcome × (heard what ≡ Some outcome)
HasHeardBy heard h note (Unfired what) = (heard what ≡ None) × ((outcome : Outcome) → NoteEnded h note outcome → ⊥)

-- all notifiers came back, each in the place of its number
pub record AreBack {N : Type 0} (heard : N → Option Outcome) (number : N → ℕ) (h : List (Entry Meaning)) (count : ℕ) (back : List (Noted N)) : Type 0 where
  pub all : length back ≡ count
  pub in_order : AreInOrder number back
  pub each : (note : ℕ) (noted : Noted N) → slice_get back note ≡ Some noted → HasHeardBy heard h note noted
