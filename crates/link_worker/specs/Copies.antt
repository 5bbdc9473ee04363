-- A copy of the memory, as a seat makes it.
use Rattle.std.specs.Prelude.{◌≡◌, ℕ, List, [], ◌∷◌, take}
use Rattle.orc_ids.specs.declared.lookup.Stop.{Stop}
use Rattle.code_memory.specs.declared.image.Segment.{Segment}
use Rattle.session_model.specs.Meaning.{Meaning}
use Rattle.session_model.specs.State.{state}
use Rattle.session_model.specs.declared.entry.Entry.{Entry}
use Rattle.session_model.specs.declared.entry.Event.TheVariants as event
use Rattle.closure_laws.specs.Quiet.{SettlesNow}
use Rattle.session_steps.specs.Handed.{IsMemory}
use Rattle.turn_lock.specs.declared.view.View.{View}
use Rattle.shared_session.specs.Did.{Did, Nothing, Promise}
use Rattle.link_worker.specs.Works.{WasStopped}

-- one call, which copied the memory, and at which no query settled
abbrev pub OneCopy : List Segment → Promise
OneCopy memory h cs = (n : ℕ) × (e : Entry Meaning) × (cs ≡ (n, e) ∷ []) × (e.event ≡ event.Image) × IsMemory (state (take n h)) memory × ((k : ℕ) → SettlesNow (take n h) k → ⊥)

module _ {U : Type 0} (means : U → Meaning) where
  abbrev pub CopiesAt : View (Entry U) → View (Entry U) → List Segment → Type 0
  CopiesAt v w memory = Did means v w (OneCopy memory)

module _ {U : Type 0} (means : U → Meaning) (jmax : ℕ) where
  -- a copy was stopped
  abbrev pub IsStoppedAt : View (Entry U) → View (Entry U) → Stop → Type 0
  IsStoppedAt v w st = Did means v w Nothing × WasStopped means jmax v.seen w.seen st
