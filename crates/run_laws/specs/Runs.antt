-- What is known of the history of a program's run, whose set-up was done.
use Rattle.std.specs.Prelude.{◌≡◌, ℕ, ◌<◌, Bool, true, false, MatchBool, List, [], ◌∷◌, ◌++◌, map, All, None}
use Rattle.orc_ids.specs.declared.ids.NameId.{NameId}
use Rattle.orc_ids.specs.declared.lookup.Level.TheVariants.{Ready}
use Rattle.orc_ids.specs.declared.lookup.Scope.TheVariants.{All as AllScope}
use Rattle.session_model.specs.Calls.{IsJob, IsStopped, Lookup, Looks, numbered_calls}
use Rattle.session_model.specs.History.{IsLegal}
use Rattle.session_model.specs.Meaning.{Meaning}
use Rattle.session_model.specs.declared.entry.Entry.{Entry}
use Rattle.session_model.specs.declared.entry.Event.TheVariants as event
use Rattle.session_model.specs.declared.entry.Reply.{Reply}
use Rattle.session_model.specs.declared.entry.Reply.TheVariants as reply
use Rattle.memory_laws.specs.Objects.{first_dylib, is_done, setup_events}

-- the lookup of a required name at Ready, among all names of the dylib
abbrev pub lookup_of : NameId → Lookup
lookup_of name = record {
  order = record { dylib = first_dylib; scope = AllScope } ∷ [];
  wanted = record { name = name; weak = false } ∷ [];
  level = Ready;
  note = None;
}

-- all events of the set-up, each of which was done
pub record IsSetUp (main : NameId) (units : List Meaning) (setup : List (Entry Meaning)) : Type 0 where
  pub events : map (λ (e : Entry Meaning). e.event) setup ≡ setup_events main units
  pub done : All (λ (e : Entry Meaning). is_done e.reply ≡ true) setup

-- the calls of jobs, one job after the other
pub data AreJobs (h : List (Entry Meaning)) : List (ℕ × Entry Meaning) → Type 0 where
  NoJob : AreJobs h []
  OneMore : (before job : List (ℕ × Entry Meaning)) → AreJobs h before → IsJob h job → AreJobs h (before ++ job)

-- Seat 0 sets up, and is done before any other seat begins; the seats behind the client's do jobs.
pub record IsRunBy (jmax : ℕ) (main : NameId) (units : List Meaning) (h setup later : List (Entry Meaning)) : Type 0 where
  pub legal : IsLegal jmax h
  pub parts : h ≡ setup ++ later
  pub setup_seat : All (λ (e : Entry Meaning). e.seat.0 ≡ 0) setup
  pub later_seats : All (λ (e : Entry Meaning). 0 < e.seat.0) later
  pub set_up : IsSetUp main units setup
  pub plain_units : All (λ (u : Meaning). u.source ≡ None) units
  pub workers_do : (s : ℕ) → 1 < s → AreJobs h (numbered_calls s 1 h)

-- a reply to a lookup that found its names
abbrev pub has_found : Reply → Bool
has_found (reply.Found at matches) = true
has_found r = false

-- one copy of the memory
abbrev pub IsCopy : List (ℕ × Entry Meaning) → Type 0
IsCopy (c ∷ []) = c.1.event ≡ event.Image
IsCopy cs = ⊥

-- all that the client calls: the lookup of the entry, and a copy of the memory where it was found
pub record LooksAndCopies (h : List (Entry Meaning)) (entry : NameId) (cs : List (ℕ × Entry Meaning)) : Type 0 where
  pub before : List (ℕ × Entry Meaning)
  pub last : ℕ × Entry Meaning
  pub copied : List (ℕ × Entry Meaning)
  pub are : cs ≡ (before ++ last ∷ []) ++ copied
  pub looks : Looks h (lookup_of entry) (before ++ last ∷ [])
  pub copies : MatchBool (has_found last.1.reply) (IsCopy copied) (copied ≡ [])

-- what the client calls: the lookup of the entry, and then a copy of the memory; or a beginning of that
pub record ClientCalls (h : List (Entry Meaning)) (entry : NameId) (looked copied : List (ℕ × Entry Meaning)) : Type 0 where
  pub calls : numbered_calls 1 1 h ≡ looked ++ copied
  pub looks : IsStopped (Looks h (lookup_of entry)) looked
  pub copies : All (λ (c : ℕ × Entry Meaning). c.1.event ≡ event.Image) copied
