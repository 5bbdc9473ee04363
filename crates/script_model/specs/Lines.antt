-- The lines of a script's clients: which calls each makes, and how it ends.
use Rattle.std.specs.Prelude.{◌≡◌, ◌≢◌, ℕ, ⊤, List, [], ◌∷◌, ◌++◌, take, Option, Some, None}
use Rattle.orc_ids.specs.declared.ids.InstId.{InstId}
use Rattle.orc_ids.specs.declared.lookup.Level.TheVariants as level
use Rattle.orc_ids.specs.declared.lookup.Stop.{Stop}
use Rattle.code_memory.specs.Mapped.{byte_at}
use Rattle.code_memory.specs.declared.image.Segment.{Segment}
use Rattle.exec_run.specs.Run.{RunsTo}
use Rattle.exec_run.specs.declared.ran.RunEnd.{RunEnd}
use Rattle.session_model.specs.Calls.{Looks}
use Rattle.session_model.specs.Meaning.{Meaning}
use Rattle.session_model.specs.Plain.{address_at}
use Rattle.session_model.specs.Reach.{IsReady}
use Rattle.session_model.specs.State.{state}
use Rattle.session_model.specs.declared.entry.Entry.{Entry}
use Rattle.session_model.specs.declared.entry.Event.{Event}
use Rattle.session_model.specs.declared.entry.Event.TheVariants as event
use Rattle.session_model.specs.declared.entry.Reply.{Reply}
use Rattle.session_model.specs.Ends.{EndsAs}
use Rattle.session_model.specs.Stopped.{IsStoppedBy}
use Rattle.session_model.specs.declared.look_end.LookEnd.TheVariants as look
use Rattle.session_model.specs.declared.peeked.Peek.{Peek}
use Rattle.session_model.specs.declared.peeked.Peek.TheVariants as peek
use Rattle.script_model.specs.Asking.{Line, One, LookUp, Run, PeekAt}
use Rattle.script_model.specs.Given.{Given, address_of, given_names, match_of}
use Rattle.script_model.specs.declared.names.GivenMatch.{GivenMatch}
use Rattle.run_laws.specs.Ended.{AreMemory}
use Rattle.run_laws.specs.Runs.{IsCopy}
use Rattle.script_model.specs.declared.line_end.LineEnd.{LineEnd}
use Rattle.script_model.specs.declared.line_end.LineEnd.TheVariants.{Looked, Peeked, Ran, Replied, Skipped, Stopped, Unfound}

-- what a line gave
abbrev pub given_by : Line → LineEnd → Given
given_by (LookUp l) (Looked (look.Found matches)) = given_names l.level l.wanted matches
given_by line end = []

-- one call, which was answered so
abbrev pub OneCall : Event Meaning → Reply → List (ℕ × Entry Meaning) → Type 0
OneCall e r cs = (n : ℕ) × (c : Entry Meaning) × (cs ≡ (n, c) ∷ []) × (c.event ≡ e) × (c.reply ≡ r)

-- a copy of the memory, which was run from the address
abbrev pub CopiesAndRuns : List (Entry Meaning) → Option ℕ → ℕ → List ℕ → RunEnd → List ℕ → List (ℕ × Entry Meaning) → Type 0
CopiesAndRuns h (Some address) fuel args end output (c ∷ []) =
    (c.1.event ≡ event.Image) × ((ranges : List Segment) × AreMemory (state (take c.0 h)) ranges × RunsTo (byte_at ranges) address args fuel end output)
CopiesAndRuns h address fuel args end output cs = ⊥

-- an instance is ready, at this address
abbrev pub IsReadyAt : List (Entry Meaning) → InstId → ℕ → Type 0
IsReadyAt h i address = IsReady (state h).rows i.0 × (address_at (state h).rows i.0 ≡ Some address)

-- the client itself found the match ready, at an address other than 0
abbrev pub WasReady : GivenMatch → Type 0
WasReady m = (m.level ≡ level.Ready) × (m.address ≢ 0)

-- A peek told this of a name that had this match. It is unfound exactly where there is none; ready at an address only where its instance is so
-- after some entries of the history; and ready at the address of the match where the client itself found it so.
abbrev pub IsPeekOf : List (Entry Meaning) → Option GivenMatch → Peek → Type 0
IsPeekOf h None told = told ≡ peek.Unfound
IsPeekOf h (Some m) peek.Unfound = ⊥
IsPeekOf h (Some m) peek.NotYet = WasReady m → ⊥
IsPeekOf h (Some m) (peek.Ready address) = ((n : ℕ) × IsReadyAt (take n h) m.instance address) × (WasReady m → address ≡ m.address)

-- The line made these calls, and ended so; names were given these matches before.
abbrev pub IsLine : List (Entry Meaning) → Given → Line → LineEnd → List (ℕ × Entry Meaning) → Type 0
IsLine h given (One e) (Replied r) cs = OneCall e r cs
IsLine h given (LookUp l) (Looked end) cs = Looks h l cs × EndsAs end cs
IsLine h given (Run name fuel args) Unfound cs = (address_of name given ≡ None) × (cs ≡ [])
IsLine h given (Run name fuel args) (Ran end output) cs = CopiesAndRuns h (address_of name given) fuel args end output cs
IsLine h given (PeekAt name) (Peeked told) cs = IsPeekOf h (match_of name given) told × (cs ≡ [])
IsLine h given line end cs = ⊥

-- the calls that a line makes, whatever comes of them
abbrev pub CallsOf : List (Entry Meaning) → Given → Line → List (ℕ × Entry Meaning) → Type 0
CallsOf h given (One e) cs = (r : Reply) × OneCall e r cs
CallsOf h given (LookUp l) cs = Looks h l cs
CallsOf h given (Run name fuel args) cs = (address : ℕ) × (address_of name given ≡ Some address) × IsCopy cs
CallsOf h given (PeekAt name) cs = ⊥

-- each of the lines was skipped
abbrev pub AreSkipped : List Line → List LineEnd → Type 0
AreSkipped [] [] = ⊤
AreSkipped (line ∷ lines) (Skipped ∷ ends) = AreSkipped lines ends
AreSkipped lines ends = ⊥

-- The lines made these calls, one line after the other, and each ended so. One that was stopped made the beginning of its calls,
-- but the one that found no place, if one did; and the lines after it are skipped, without a call.
pub data AreLines (h : List (Entry Meaning)) : Given → List Line → List LineEnd → List (ℕ × Entry Meaning) → Type 0 where
  AtEnd : (given : Given) → AreLines h given [] [] []
  Goes : (given : Given) (line : Line) (lines : List Line) (end : LineEnd) (ends : List LineEnd) (now later : List (ℕ × Entry Meaning)) →
      IsLine h given line end now → AreLines h (given_by line end ++ given) lines ends later → AreLines h given (line ∷ lines) (end ∷ ends) (now ++ later)
  Stops : (given : Given) (line : Line) (lines : List Line) (st : Stop) (skipped : List LineEnd) (now : List (ℕ × Entry Meaning)) →
      IsStoppedBy st (CallsOf h given line) now → AreSkipped lines skipped → AreLines h given (line ∷ lines) (Stopped st ∷ skipped) now
