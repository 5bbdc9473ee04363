-- What a session promises its clients, of every legal history.
use Rattle.std.specs.Prelude.{◌≡◌, ◌↔◌, ◌⊎◌, ℕ, ◌+◌, true, false, List, [], ◌∷◌, ◌++◌, ◌<◌, ◌≤◌, Contains, length, slice_get, take, All, IfSome, Some}
use Rattle.orc_ids.specs.declared.ids.InstId.{InstId}
use Rattle.orc_ids.specs.declared.ids.QueryId.{QueryId}
use Rattle.orc_ids.specs.declared.limits.TheConstants.{INSTANCE_LIMIT}
use Rattle.orc_ids.specs.declared.lookup.Level.TheVariants.{Ready}
use Rattle.code_memory.specs.Mapped.{byte_at}
use Rattle.code_memory.specs.declared.image.Segment.{Segment}
use Rattle.link_model.specs.declared.graph.LinkGraph.{LinkGraph}
use Rattle.rv_hart.specs.Map.{Map}
use Rattle.exec_run.specs.Larger.{Stays}
use Rattle.exec_run.specs.Run.{RunsTo}
use Rattle.exec_run.specs.declared.ran.RunEnd.{RunEnd}
use Rattle.session_model.specs.Calls.{Lookup, Looks}
use Rattle.session_model.specs.History.{IsLegal}
use Rattle.session_model.specs.Meaning.{Bindings, Meaning}
use Rattle.session_model.specs.Memory.{memory}
use Rattle.session_model.specs.Owed.{IsIntact}
use Rattle.session_model.specs.Plain.{failed_at}
use Rattle.session_model.specs.Reach.{IsHit, IsReady}
use Rattle.session_model.specs.State.{state}
use Rattle.session_model.specs.declared.entry.Entry.{Entry}
use Rattle.session_model.specs.declared.entry.Event.TheVariants as event
use Rattle.session_model.specs.declared.entry.Reply.TheVariants as reply
use Rattle.session_laws.specs.Failures.{IsFailure}
use Rattle.closure_laws.specs.HandedIn.{HandsIn}
use Rattle.memory_laws.specs.Closures.{AreObjects}
use Rattle.session_promises.specs.Failures.{roots_of}
use Rattle.session_promises.specs.Lookups.{AreCallsOf, IsFailedAt, IsFoundAt, StandsReady}
use Rattle.session_promises.specs.Runs.{IsClosure, IsLinkable}

-- a lookup whose last call was answered that it is found: the call collects a query that an ask for its names lodged, and it was answered
-- so at exactly the point where that query settles
abbrev pub FoundWhereSettled : Type 0
FoundWhereSettled = (jmax : ℕ) (h : List (Entry Meaning)) → IsLegal jmax h → (l : Lookup) (before : List (ℕ × Entry Meaning)) (last : ℕ × Entry Meaning) →
    AreCallsOf h (before ++ last ∷ []) → Looks h l (before ++ last ∷ []) → (at : ℕ) (matches : Bindings) → last.1.reply ≡ reply.Found at matches →
    (q : QueryId) × (last.1.event ≡ event.Collect q) × IsFoundAt h l q at matches

-- one that failed, where it lost a match
abbrev pub FailedWhereLost : Type 0
FailedWhereLost = (jmax : ℕ) (h : List (Entry Meaning)) → IsLegal jmax h → (l : Lookup) (before : List (ℕ × Entry Meaning)) (last : ℕ × Entry Meaning) →
    AreCallsOf h (before ++ last ∷ []) → Looks h l (before ++ last ∷ []) → (at : ℕ) (lost : InstId) → last.1.reply ≡ reply.Lost at lost →
    (q : QueryId) × (last.1.event ≡ event.Collect q) × IsFailedAt h l q at lost

-- where a lookup at Ready is found, each match is ready: all that it reaches is emitted
abbrev pub FoundIsReady : Type 0
FoundIsReady = (h : List (Entry Meaning)) (l : Lookup) (q : QueryId) (at : ℕ) (matches : Bindings) (f : IsFoundAt h l q at matches) → l.level ≡ Ready →
    (i : InstId) → Contains f.found (Some i) → IsReady (state (take at h)).rows i.0

-- and stays so in every later history, at the address that it was found at
abbrev pub FoundStaysReady : Type 0
FoundStaysReady = (jmax : ℕ) (h : List (Entry Meaning)) → IsLegal jmax h → (l : Lookup) (q : QueryId) (at : ℕ) (matches : Bindings) → IsFoundAt h l q at matches → l.level ≡ Ready →
    All (StandsReady (state h).rows) matches

-- a session has few instances
abbrev pub RowsAreFew : Type 0
RowsAreFew = (jmax : ℕ) (h : List (Entry Meaning)) → IsLegal jmax h → length (state h).rows ≤ INSTANCE_LIMIT

-- what a lookup found are instances of it
abbrev pub FoundAreFew : Type 0
FoundAreFew = (jmax : ℕ) (h : List (Entry Meaning)) → IsLegal jmax h → (l : Lookup) (q : QueryId) (at : ℕ) (matches : Bindings) → IsFoundAt h l q at matches →
    All (λ o. IfSome o (λ p. p.0.0 < INSTANCE_LIMIT)) matches

-- a failure puts in error exactly the unready instances that reach what it strikes
abbrev pub FailureHitsThose : Type 0
FailureHitsThose = (h : List (Entry Meaning)) (n : ℕ) (e : Entry Meaning) → slice_get h n ≡ Some e → IsFailure e.event e.reply → (i : ℕ) →
    (failed_at (state (take (n + 1) h)).rows i ≡ true) ↔ (failed_at (state (take n h)).rows i ≡ true) ⊎ IsHit (state (take n h)).rows (roots_of (state (take n h)) e.event) i

-- nothing else puts one in error
abbrev pub NothingElseFails : Type 0
NothingElseFails = (h : List (Entry Meaning)) (n : ℕ) (e : Entry Meaning) → slice_get h n ≡ Some e → (i : ℕ) →
    failed_at (state (take n h)).rows i ≡ false → failed_at (state (take (n + 1) h)).rows i ≡ true → IsFailure e.event e.reply

-- an intact instance has a closure, where the units are those of objects
abbrev pub IntactHasClosure : Type 0
IntactHasClosure = (jmax : ℕ) (h : List (Entry Meaning)) → IsLegal jmax h → (graphs : List LinkGraph) → AreObjects (state h).units graphs → (i : ℕ) → IsIntact (state h).rows i → (closure : Map) × IsClosure (state h) i closure

-- so it has, where each unit that the session was handed is that of an object, or needs no memory
abbrev pub ObjectsHaveClosures : Type 0
ObjectsHaveClosures = (jmax : ℕ) (h : List (Entry Meaning)) → IsLegal jmax h → All (λ (e : Entry Meaning). HandsIn IsLinkable e.event) h → (i : ℕ) → IsIntact (state h).rows i → (closure : Map) × IsClosure (state h) i closure

-- a run from an intact symbol is the run of the statically linked program of its closure, where that stays within it
abbrev pub IntactRunsAsLinked : Type 0
IntactRunsAsLinked = (jmax : ℕ) (h : List (Entry Meaning)) → IsLegal jmax h → (ranges : List Segment) → ((address : ℕ) → byte_at ranges address ≡ memory (state h) address) →
    (i : ℕ) (closure : Map) → IsClosure (state h) i closure →
    (address : ℕ) (args : List ℕ) (fuel : ℕ) (end : RunEnd) (output : List ℕ) → Stays closure address args fuel →
    RunsTo closure address args fuel end output ↔ RunsTo (byte_at ranges) address args fuel end output
