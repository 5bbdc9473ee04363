-- What the session of a script promises its clients.
use Rattle.std.specs.Prelude.{◌≡◌, ◌↔◌, ◌⊎◌, ⊤, ℕ, ◌+◌, true, false, List, [], ◌∷◌, ◌++◌, Contains, slice_get, take, All, Option, Some}
use Rattle.orc_ids.specs.declared.ids.InstId.{InstId}
use Rattle.orc_ids.specs.declared.ids.QueryId.{QueryId}
use Rattle.orc_ids.specs.declared.lookup.Level.TheVariants.{Ready}
use Rattle.orc_ids.specs.declared.lookup.Stop.{Stop}
use Rattle.code_memory.specs.Mapped.{byte_at}
use Rattle.code_memory.specs.declared.image.Segment.{Segment}
use Rattle.rv_hart.specs.Map.{Map}
use Rattle.exec_run.specs.Larger.{Stays}
use Rattle.exec_run.specs.Run.{RunsTo}
use Rattle.exec_run.specs.declared.ran.RunEnd.{RunEnd}
use Rattle.session_model.specs.Calls.{Lookup}
use Rattle.session_model.specs.Meaning.{Bindings, Meaning}
use Rattle.session_model.specs.Owed.{IsIntact}
use Rattle.session_model.specs.Plain.{failed_at}
use Rattle.session_model.specs.Reach.{IsHit, IsReady}
use Rattle.session_model.specs.State.{state}
use Rattle.session_model.specs.declared.entry.Entry.{Entry}
use Rattle.session_model.specs.declared.entry.Event.TheVariants as event
use Rattle.closure_laws.specs.HandedIn.{HandsIn}
use Rattle.session_laws.specs.Failures.{IsFailure}
use Rattle.session_model.specs.declared.look_end.LookEnd.TheVariants as look
use Rattle.session_model.specs.declared.peeked.Peek.{Peek}
use Rattle.session_model.specs.declared.peeked.Peek.TheVariants as peek
use Rattle.script_model.specs.Given.{Given, address_of, match_of}
use Rattle.script_model.specs.declared.names.GivenMatch.{GivenMatch}
use Rattle.run_laws.specs.Ended.{AreMemory}
use Rattle.session_promises.specs.Failures.{roots_of}
use Rattle.session_promises.specs.Lookups.{IsFailedAt, IsFoundAt}
use Rattle.session_promises.specs.Runs.{IsClosure, IsLinkable}
use Rattle.script_model.specs.Asking.{Line, LookUp, Run, PeekAt, Script, One}
use Rattle.script_model.specs.Lines.{IsReadyAt, given_by}
use Rattle.script_model.specs.Scripts.{IsScriptRun}
use Rattle.script_model.specs.declared.line_end.LineEnd.{LineEnd}
use Rattle.script_model.specs.declared.line_end.LineEnd.TheVariants.{Looked, Peeked, Ran}

module _ (h : List (Entry Meaning)) where
  -- The lookup's query was answered these addresses at the first entry that leaves all its matches at its level; at Ready, all that they
  -- reach is emitted there.
  pub record IsFound (l : Lookup) (matches : Bindings) : Type 0 where
    pub query : QueryId
    pub at : ℕ
    pub found : IsFoundAt h l query at matches
    pub ready : l.level ≡ Ready → (i : InstId) → Contains found.found (Some i) → IsReady (state (take at h)).rows i.0

  -- its query failed at the first entry that left a match lost, with the first such match
  pub record IsLost (l : Lookup) (lost : InstId) : Type 0 where
    pub query : QueryId
    pub at : ℕ
    pub failed : IsFailedAt h l query at lost

  -- The memory was copied at entry n and run from the address that the name was given. Where an instance is intact then, and a run of the
  -- statically linked program of its closure stays within that, this is that run.
  pub record IsRun (address : Option ℕ) (fuel : ℕ) (args : List ℕ) (end : RunEnd) (output : List ℕ) : Type 0 where
    pub from : ℕ
    pub given : address ≡ Some from
    pub n : ℕ
    pub copy : Entry Meaning
    pub there : slice_get h n ≡ Some copy
    pub copies : copy.event ≡ event.Image
    pub ranges : List Segment
    pub memory : AreMemory (state (take (n + 1) h)) ranges
    pub runs : RunsTo (byte_at ranges) from args fuel end output
    pub linked : (i : ℕ) (closure : Map) → IsClosure (state (take (n + 1) h)) i closure → Stays closure from args fuel → RunsTo closure from args fuel end output

  -- what is promised of a peek that told this of a name that had this match: an instance that is ready now stays so, at its address
  abbrev pub IsPeeked : Option GivenMatch → Peek → Type 0
  IsPeeked (Some m) (peek.Ready address) = IsReadyAt h m.instance address
  IsPeeked found told = ⊤

  -- what is promised of a line that ended so, before which names were given these matches
  abbrev pub IsKept : Given → Line → LineEnd → Type 0
  IsKept given (LookUp l) (Looked (look.Found matches)) = IsFound l matches
  IsKept given (LookUp l) (Looked (look.Failed lost)) = IsLost l lost
  IsKept given (Run name fuel args) (Ran end output) = IsRun (address_of name given) fuel args end output
  IsKept given (PeekAt name) (Peeked told) = IsPeeked (match_of name given) told
  IsKept given line end = ⊤

  -- so of each of a client's lines, one after the other
  abbrev pub AreKept : Given → List Line → List LineEnd → Type 0
  AreKept given [] [] = ⊤
  AreKept given (line ∷ lines) (end ∷ ends) = IsKept given line end × AreKept (given_by line end ++ given) lines ends
  AreKept given lines ends = ⊥

-- each unit that a script asks for is that of an object, or needs no memory
abbrev pub LineHandsIn : Line → Type 0
LineHandsIn (One e) = HandsIn IsLinkable e
LineHandsIn line = ⊤

pub record AsksForObjects (script : Script) : Type 0 where
  pub set_up : All (HandsIn IsLinkable) script.set_up
  pub lines : All (All LineHandsIn) script.clients

-- What the session of a script promises.
pub record KeepsPromises (script : Script) (ends : List (List LineEnd)) (h : List (Entry Meaning)) : Type 0 where
  -- each line of each client
  pub lines : (k : ℕ) (lines : List Line) (its : List LineEnd) → slice_get script.clients k ≡ Some lines → slice_get ends k ≡ Some its → AreKept h [] lines its
  -- where it asks for objects alone, there is a closure of each instance that is intact after an entry
  pub closures : AsksForObjects script → (n i : ℕ) → IsIntact (state (take n h)).rows i → (closure : Map) × IsClosure (state (take n h)) i closure
  -- a failure puts in error exactly the unready instances that reach what it strikes
  pub failures : (n : ℕ) (e : Entry Meaning) → slice_get h n ≡ Some e → IsFailure e.event e.reply → (i : ℕ) →
      (failed_at (state (take (n + 1) h)).rows i ≡ true) ↔ (failed_at (state (take n h)).rows i ≡ true) ⊎ IsHit (state (take n h)).rows (roots_of (state (take n h)) e.event) i
  -- nothing else puts one in error
  pub nothing_else : (n : ℕ) (e : Entry Meaning) → slice_get h n ≡ Some e → (i : ℕ) → failed_at (state (take n h)).rows i ≡ false → failed_at (state (take (n + 1) h)).rows i ≡ true → IsFailure e.event e.reply

abbrev pub ScriptKeepsPromises : Type 0
ScriptKeepsPromises = (jmax workers : ℕ) (script : Script) (stopped : Option Stop) (ends : List (List LineEnd)) (h : List (Entry Meaning)) → IsScriptRun jmax workers script stopped ends h → KeepsPromises script ends h
