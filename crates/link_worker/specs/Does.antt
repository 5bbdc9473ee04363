-- What a pass did by one or more calls: its promise about them, who was told at them, and where they placed.
use Rattle.std.specs.Prelude.{◌≡◌, ℕ, ◌-◌, List, ◌++◌, take, All, Option}
use Rattle.orc_ids.specs.declared.ids.UnitId.{UnitId}
use Rattle.orc_ids.specs.declared.lookup.Outcome.{Outcome}
use Rattle.orc_ids.specs.declared.place.Shape.{Shape}
use Rattle.session_model.specs.Meaning.{Meaning}
use Rattle.session_model.specs.State.{state}
use Rattle.session_model.specs.declared.entry.Entry.{Entry}
use Rattle.session_model.specs.declared.entry.Event.TheVariants as event
use Rattle.session_steps.specs.Handed.{IsLowest}
use Rattle.notifiers.specs.Notices.{AreHeard}
use Rattle.notifiers.specs.declared.notice.Notice.{Notice}
pub use Rattle.history_laws.specs.Notes.{ToldAt, Nobody, Call}
use Rattle.turn_lock.specs.declared.view.View.{View}
use Rattle.shared_session.specs.Did.{Did, Promise}

-- a unit that a call placed is placed at the lowest base that was free
abbrev pub PlacesLowest : List (Entry Meaning) → List (ℕ × Entry Meaning) → Type 0
PlacesLowest h cs = All (λ (c : ℕ × Entry Meaning). (u : UnitId) (shape : Shape) → c.1.event ≡ event.Place u shape → IsLowest (state (take (c.0 - 1) h)) shape c.1.reply) cs

-- The pass, which knew v, knows w now. Its calls since keep the promise, whatever comes after them, and place each unit at the lowest base; and the
-- list of who was told has gained those who were told at them, each having heard its own outcome.
pub record Does {U N : Type 0} (means : U → Meaning) (heard : N → Option Outcome) (v w : View (Entry U)) (old new : List (Notice N)) (P : Promise) : Type 0 where
  pub told : List (Notice N)
  pub added : new ≡ old ++ told
  pub heard_it : AreHeard heard told
  pub did : Did means v w (λ h cs. P h cs × ToldAt h cs told × PlacesLowest h cs)
