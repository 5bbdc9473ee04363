-- What seat 0 does while it is the only seat.
use Rattle.std.specs.Prelude.{◌≡◌, ◌+◌, ◌<◌, ℕ, Bool, true, false, List, [], ◌∷◌, ◌++◌, length, map, take, slice_get, All, Some}
use Rattle.orc_ids.specs.declared.ids.NameId.{NameId}
use Rattle.orc_ids.specs.declared.lookup.Stop.{Stop}
use Rattle.session_model.specs.Meaning.{Meaning}
use Rattle.session_model.specs.State.{plain_history}
use Rattle.session_model.specs.declared.entry.Entry.{Entry}
use Rattle.session_model.specs.declared.entry.Event.{Event}
use Rattle.session_model.specs.declared.entry.Event.TheVariants as event
use Rattle.session_model.specs.declared.entry.Reply.{Reply}
use Rattle.session_model.specs.declared.entry.Reply.TheVariants as reply
use Rattle.turn_lock.specs.declared.view.View.{View}
use Rattle.link_worker.specs.Jobs.{IsCause}
use Rattle.link_worker.specs.First.{IsFirst}
use Rattle.memory_laws.specs.Objects.{first_dylib, first_tracker, is_done}
use Rattle.run_laws.specs.Runs.{IsSetUp}
use Rattle.run_laws.specs.Ended.{IsRefusedAt, IsSetUpTo}
use Rattle.linked_program.specs.declared.setting_up.SetUp.{SetUp}
use Rattle.linked_program.specs.declared.setting_up.SetUp.TheVariants.{Done, Refused, Stopped}

-- a unit was defined
abbrev pub is_defined : Reply → Bool
is_defined (reply.Defined u first count) = true
is_defined r = false

-- the definition of a unit in the one dylib
abbrev pub define_of : Meaning → Event Meaning
define_of unit = event.Define first_dylib first_tracker unit

-- a dylib, and a tracker of it
abbrev pub beginning : NameId → List (Event Meaning)
beginning main = event.Dylib main ∷ event.Tracker first_dylib ∷ []

-- these events were done, and nothing else
pub record AreDone (evs : List (Event Meaning)) (h : List (Entry Meaning)) : Type 0 where
  pub events : map (λ (e : Entry Meaning). e.event) h ≡ evs
  pub done : All (λ (e : Entry Meaning). is_done e.reply ≡ true) h

-- these were, and then this one was refused
pub record AreRefused (evs : List (Event Meaning)) (e : Event Meaning) (h : List (Entry Meaning)) : Type 0 where
  pub before : List (Entry Meaning)
  pub last : Entry Meaning
  pub are : h ≡ before ++ last ∷ []
  pub first : AreDone evs before
  pub event_is : last.event ≡ e
  pub refused : is_done last.reply ≡ false

module _ {U : Type 0} (means : U → Meaning) (jmax : ℕ) where
  -- it has done these events
  abbrev pub IsAt : List (Event Meaning) → View (Entry U) → Type 0
  IsAt evs v = IsFirst means jmax v × AreDone evs (plain_history means v.seen)

  -- it has done these, and the next was refused
  abbrev pub IsRefusedIn : List (Event Meaning) → Event Meaning → View (Entry U) → Type 0
  IsRefusedIn evs e v = IsFirst means jmax v × AreRefused evs e (plain_history means v.seen)

  -- it has done these, and the next was stopped
  abbrev pub IsStoppedIn : List (Event Meaning) → View (Entry U) → Stop → Type 0
  IsStoppedIn evs v st = IsAt evs v × IsCause means jmax v.seen st

  -- a unit was defined after these events, or refused
  abbrev pub HasDefined : List (Event Meaning) → Meaning → View (Entry U) → Bool → Type 0
  HasDefined evs unit w true = IsAt (evs ++ define_of unit ∷ []) w
  HasDefined evs unit w false = IsRefusedIn evs (define_of unit) w

  -- units were defined after these events; or one of them was refused; or a call was stopped
  abbrev pub HaveDefined : List (Event Meaning) → List Meaning → View (Entry U) → SetUp → Type 0
  HaveDefined evs units w Done = IsAt (evs ++ map define_of units) w
  HaveDefined evs units w (Refused k) = (unit : Meaning) × (slice_get units k ≡ Some unit) × IsRefusedIn (evs ++ map define_of (take k units)) (define_of unit) w
  HaveDefined evs units w (Stopped st) = (k : ℕ) × (k < length units) × IsStoppedIn (evs ++ map define_of (take k units)) w st

  -- the whole set-up
  abbrev pub HasSetUp : NameId → List Meaning → View (Entry U) → SetUp → Type 0
  HasSetUp main units w Done = IsFirst means jmax w × IsSetUp main units (plain_history means w.seen)
  HasSetUp main units w (Refused k) = IsFirst means jmax w × IsRefusedAt main units k (plain_history means w.seen)
  HasSetUp main units w (Stopped st) = IsFirst means jmax w × ((n : ℕ) × (n < 2 + length units) × (length (plain_history means w.seen) ≡ n) × IsSetUpTo main units n (plain_history means w.seen)) × IsCause means jmax w.seen st
