-- What the client's seat did.
use Rattle.std.specs.Prelude.{◌≡◌, ℕ, List, [], ◌∷◌, ◌++◌, take, Option, Some, None, Result, Ok, Err}
use Rattle.orc_ids.specs.declared.ids.NameId.{NameId}
use Rattle.orc_ids.specs.declared.lookup.Stop.TheVariants as stop
use Rattle.code_memory.specs.declared.image.Segment.{Segment}
use Rattle.session_model.specs.Calls.{Looks}
use Rattle.session_model.specs.Meaning.{Meaning, Bindings}
use Rattle.session_model.specs.State.{state}
use Rattle.session_model.specs.declared.entry.Entry.{Entry}
use Rattle.session_model.specs.declared.entry.Event.TheVariants as event
use Rattle.session_steps.specs.Handed.{IsMemory}
use Rattle.turn_lock.specs.declared.view.View.{View}
use Rattle.shared_session.specs.Did.{Did, Promise}
use Rattle.link_worker.specs.Does.{PlacesLowest}
use Rattle.link_worker.specs.Jobs.{SpareAll}
use Rattle.session_model.specs.Ends.{EndsAs}
use Rattle.session_model.specs.Stopped.{IsCutShort}
use Rattle.link_worker.specs.Works.{WasStopped}
use Rattle.session_model.specs.declared.look_end.LookEnd.{LookEnd}
use Rattle.session_model.specs.declared.look_end.LookEnd.TheVariants.{Found, JournalFull, NoMemory}
use Rattle.run_laws.specs.Runs.{LooksAndCopies, lookup_of}
use Rattle.linked_program.specs.declared.client.ClientEnd.{ClientEnd}

-- the calls of a lookup of the entry, which ended so, and no job of which was cut; or the client's calls as far as one was stopped
abbrev pub Ends : NameId → LookEnd → Promise
Ends entry end h cs = Looks h (lookup_of entry) cs × EndsAs end cs × PlacesLowest h cs × SpareAll cs

abbrev pub Begins : NameId → Promise
Begins entry h cs = IsCutShort (LooksAndCopies h entry) cs × PlacesLowest h cs

-- the calls of a lookup that found the entry, and then a copy of the memory
pub record Copies (entry : NameId) (end : LookEnd) (memory : List Segment) (h : List (Entry Meaning)) (cs : List (ℕ × Entry Meaning)) : Type 0 where
  pub looked : List (ℕ × Entry Meaning)
  pub number : ℕ
  pub copy : Entry Meaning
  pub are : cs ≡ looked ++ (number, copy) ∷ []
  pub looks : Looks h (lookup_of entry) looked
  pub ends : EndsAs end looked
  pub copies : copy.event ≡ event.Image
  pub has : IsMemory (state (take number h)) memory
  pub lowest : PlacesLowest h cs
  pub spare : SpareAll cs

-- the matches of a lookup that was found, or how else it ended
abbrev pub found_in : LookEnd → Result Bindings LookEnd
found_in (Found matches) = Ok matches
found_in end = Err end

module _ {U : Type 0} (means : U → Meaning) (jmax : ℕ) where
  -- the seat looked the entry up, which ended so
  abbrev pub LookedUp : NameId → View (Entry U) → View (Entry U) → LookEnd → Type 0
  LookedUp entry v w (JournalFull len) = Did means v w (Begins entry) × WasStopped means jmax v.seen w.seen (stop.JournalFull len)
  LookedUp entry v w NoMemory = Did means v w (Begins entry)
  LookedUp entry v w end = Did means v w (Ends entry end)

  -- and it copied the memory where it was found
  abbrev pub IsClient : NameId → View (Entry U) → View (Entry U) → LookEnd → Option (List Segment) → Type 0
  IsClient entry v w (Found matches) (Some memory) = Did means v w (Copies entry (Found matches) memory)
  IsClient entry v w (Found matches) None = ⊥
  IsClient entry v w end (Some memory) = ⊥
  IsClient entry v w end None = LookedUp entry v w end

  abbrev pub IsClientOf : NameId → View (Entry U) → View (Entry U) → ClientEnd → Type 0
  IsClientOf entry v w client = IsClient entry v w client.end client.memory
