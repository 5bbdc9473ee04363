-- The history of a program's run: seat 0 defines its units in one dylib, seat 1, the client, looks its entry up at Ready and
-- copies the memory, and worker seats do jobs beside it.
use Rattle.std.specs.Prelude.{◌≡◌, ◌⊎◌, ℕ, ◌+◌, ◌<◌, ◌≤◌, ⊤, Bool, true, false, List, [], ◌∷◌, ◌++◌, length, map, take, slice_get, All, Some}
use Rattle.orc_ids.specs.declared.ids.InstId.{InstId}
use Rattle.orc_ids.specs.declared.ids.NameId.{NameId}
use Rattle.orc_ids.specs.declared.ids.UnitId.{UnitId}
use Rattle.orc_ids.specs.declared.lookup.Stop.{Stop}
use Rattle.orc_ids.specs.declared.lookup.Stop.TheVariants as stop
use Rattle.orc_ids.specs.declared.place.Shape.{Shape}
use Rattle.code_memory.specs.declared.image.Segment.{Segment}
use Rattle.code_memory.specs.Mapped.{byte_at}
use Rattle.session_model.specs.Answer.{IsFree}
use Rattle.session_model.specs.Calls.{Looks, numbered_calls}
use Rattle.session_model.specs.History.{IsLegal, HasPlaces}
use Rattle.session_model.specs.Meaning.{Meaning}
use Rattle.session_model.specs.Memory.{memory}
use Rattle.session_model.specs.Plain.{Plain, kept}
use Rattle.session_model.specs.State.{state}
use Rattle.session_model.specs.declared.entry.Entry.{Entry}
use Rattle.session_model.specs.declared.entry.Event.{Event}
use Rattle.session_model.specs.declared.entry.Event.TheVariants as event
use Rattle.session_model.specs.declared.entry.Reply.TheVariants as reply
use Rattle.session_model.specs.declared.entry.Why.TheVariants as why
use Rattle.memory_laws.specs.Objects.{first_dylib, first_tracker, is_done, setup_events}
use Rattle.session_model.specs.Stopped.{IsCutShort}
use Rattle.run_laws.specs.Runs.{AreJobs, IsSetUp, LooksAndCopies, lookup_of}
use Rattle.run_laws.specs.declared.linked.Linked.{Linked}
use Rattle.run_laws.specs.declared.linked.Linked.TheVariants as linked

-- each unit that was placed was placed at the lowest base that was free
abbrev pub PlacesAreLowest : List (Entry Meaning) → Type 0
PlacesAreLowest h = (n base other : ℕ) (e : Entry Meaning) (u : UnitId) (shape : Shape) → slice_get h n ≡ Some e → e.event ≡ event.Place u shape → e.reply ≡ reply.Placed base →
    IsFree (state (take n h)).units shape other → base ≤ other

-- the ranges have the bytes of a session's memory
abbrev pub AreMemory : Plain → List Segment → Type 0
AreMemory m ranges = (address : ℕ) → byte_at ranges address ≡ memory m address

-- the first so many events of the set-up, each of which was done
pub record IsSetUpTo (main : NameId) (units : List Meaning) (n : ℕ) (setup : List (Entry Meaning)) : Type 0 where
  pub events : map (λ (e : Entry Meaning). e.event) setup ≡ take n (setup_events main units)
  pub done : All (λ (e : Entry Meaning). is_done e.reply ≡ true) setup

-- all before the definition of unit k, and then that, which was refused
pub record IsRefusedAt (main : NameId) (units : List Meaning) (k : ℕ) (setup : List (Entry Meaning)) : Type 0 where
  pub unit : Meaning
  pub there : slice_get units k ≡ Some unit
  pub before : List (Entry Meaning)
  pub last : Entry Meaning
  pub are : setup ≡ before ++ last ∷ []
  pub first : IsSetUpTo main units (2 + k) before
  pub event_is : last.event ≡ event.Define first_dylib first_tracker unit
  pub refused : is_done last.reply ≡ false

-- no place is left, or one alone while a job is listed
abbrev pub IsCrowded : ℕ → List (Entry Meaning) → Type 0
IsCrowded jmax h = (length h + kept (state h) ≡ jmax) ⊎ ((length h + kept (state h) + 1 ≡ jmax) × ((state h).jobs ≡ [] → ⊥))

-- a stop's cause: after so many entries the journal was crowded
abbrev pub IsCauseIn : ℕ → List (Entry Meaning) → Stop → Type 0
IsCauseIn jmax h (stop.JournalFull len) = (len ≤ length h) × IsCrowded jmax (take len h)
IsCauseIn jmax h stop.NoMemory = ⊤

-- the run wasn't stopped
abbrev pub is_whole : Linked → Bool
is_whole (linked.Stopped st) = false
is_whole end = true

-- a unit is given up for want of memory or of places: a call of its job was stopped
abbrev pub is_cut : Event Meaning → Bool
is_cut (event.Fail u why.NoMemory) = true
is_cut (event.Fail u why.Full) = true
is_cut e = false

-- none of the calls cuts a job
abbrev pub NoneIsCut : List (ℕ × Entry Meaning) → Type 0
NoneIsCut cs = All (λ (c : ℕ × Entry Meaning). is_cut c.1.event ≡ false) cs

-- the calls of the client
abbrev pub client_calls : List (Entry Meaning) → List (ℕ × Entry Meaning)
client_calls h = numbered_calls 1 1 h

-- How the run ended. A definition that was refused is the last entry; so is the last event of a set-up that was stopped.
-- Else the client looked the entry up, and copied the memory where it was found: with the entry's address and the memory at
-- that copy; or one of these calls was stopped, which was still to come.
pub data Ended (jmax : ℕ) (main entry : NameId) (units : List Meaning) (h setup later : List (Entry Meaning)) : Linked → Type 0 where
  InDefinition : (k : ℕ) → IsRefusedAt main units k setup → later ≡ [] → Ended jmax main entry units h setup later (linked.Refused k)
  InSetUp : (n : ℕ) (st : Stop) → IsSetUpTo main units n setup → length setup ≡ n → n < 2 + length units → later ≡ [] → IsCauseIn jmax h st → Ended jmax main entry units h setup later (linked.Stopped st)
  InLookup : (st : Stop) → IsSetUp main units setup → IsCutShort (LooksAndCopies h entry) (client_calls h) → IsCauseIn jmax h st → Ended jmax main entry units h setup later (linked.Stopped st)
  NotThere : (before : List (ℕ × Entry Meaning)) (n : ℕ) (last : Entry Meaning) → IsSetUp main units setup → client_calls h ≡ before ++ (n, last) ∷ [] → Looks h (lookup_of entry) (before ++ (n, last) ∷ []) →
      last.reply ≡ reply.Missing entry → Ended jmax main entry units h setup later linked.Missing
  NotReady : (before : List (ℕ × Entry Meaning)) (n : ℕ) (last : Entry Meaning) (at : ℕ) (i : InstId) → IsSetUp main units setup → client_calls h ≡ before ++ (n, last) ∷ [] → Looks h (lookup_of entry) (before ++ (n, last) ∷ []) →
      last.reply ≡ reply.Lost at i → Ended jmax main entry units h setup later (linked.Failed i)
  IsReady : (before : List (ℕ × Entry Meaning)) (m n at address : ℕ) (last copy : Entry Meaning) (i : InstId) (ranges : List Segment) → IsSetUp main units setup →
      client_calls h ≡ (before ++ (m, last) ∷ []) ++ (n, copy) ∷ [] → Looks h (lookup_of entry) (before ++ (m, last) ∷ []) → last.reply ≡ reply.Found at (Some (i, address) ∷ []) →
      copy.event ≡ event.Image → AreMemory (state (take n h)) ranges → Ended jmax main entry units h setup later (linked.Found address ranges)

-- The history of a run with so many workers. Unless it was stopped, no job of the client was cut; and stopped or not, no seat holds a
-- unit in the end.
pub record IsRun (jmax workers : ℕ) (main entry : NameId) (units : List Meaning) (h : List (Entry Meaning)) (end : Linked) : Type 0 where
  pub legal : IsLegal jmax h
  pub places : HasPlaces jmax h
  pub lowest : PlacesAreLowest h
  pub setup : List (Entry Meaning)
  pub later : List (Entry Meaning)
  pub parts : h ≡ setup ++ later
  pub setup_seat : All (λ (e : Entry Meaning). e.seat.0 ≡ 0) setup
  pub later_seats : All (λ (e : Entry Meaning). (0 < e.seat.0) × (e.seat.0 ≤ 1 + workers)) later
  pub workers_do : (s : ℕ) → 1 < s → AreJobs h (numbered_calls s 1 h)
  pub ended : Ended jmax main entry units h setup later end
  pub uncut : is_whole end ≡ true → NoneIsCut (client_calls h)
  pub none_held : kept (state h) ≡ 0
