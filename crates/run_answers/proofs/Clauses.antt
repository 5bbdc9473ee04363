-- The clauses of the top call follow from what was found and written.
use Rattle.std.proofs.Common.{◌≡◌, ◌≢◌, ◌<◌, ℕ, Bool, true, false, ◌⊎◌, inl, inr, List, [], ◌++◌, length, Option, Some, None, Result, Ok, Err, refl, sym, ◌∙◌, ap, subst}
use Rattle.std.specs.Bool.{if◌then◌else◌, ⊤}
use Rattle.std.specs.Prelude.{option_and_then}
use Rattle.std.specs.Option.{option_map_or}
use Rattle.orc_ids.specs.declared.ids.InstId.{InstId}
use Rattle.orc_io.specs.Causes.{Rose}
use Rattle.exec_run.specs.declared.ran.RunEnd.{RunEnd}
use Rattle.exec_run.specs.declared.ran.RunEnd.TheVariants.{Exited as HasExited, Trap as HasTrapped, OutOfFuel as IsOutOfFuel, OutputFull as IsFull}
use Rattle.session_model.specs.Meaning.{Meaning, Refusal}
use Rattle.session_model.specs.declared.entry.Entry.{Entry}
use Rattle.command_line.specs.Words.{Request}
use Rattle.command_line.specs.declared.error.UsageKind.{UsageKind}
use Rattle.object_files.specs.Files.{AreLoaded, HasStopped, Told, distinct}
use Rattle.object_files.specs.declared.error.LoadError.{LoadError}
use Rattle.object_files.specs.declared.error.LoadError.TheVariants as load
use Rattle.run_laws.specs.declared.linked.Linked.{Linked}
use Rattle.answers.specs.Written.{AreQuiet, Held, HoldsWhole, HoldsAsBefore, whole, out_failed, log_failed, IsFinished}
use Rattle.answers.specs.Files.{file_answer}
use Rattle.run_answers.specs.Answered.{HasSession, IsFound, in_words, in_files, in_session, wanting, IsAnswered, found}
use Rattle.answers.specs.Files.{IsOfContents}
use Rattle.run_answers.specs.Clauses.{HasFailed, HasFault, IsBefore, IsCut, IsInSession, IsQuiet, IsWanting, OfSession, call_of}
use Rattle.answers.specs.EndLine.{end_line_of}
use Rattle.answers.specs.Memory.{wanted_memory}
use Rattle.run_answers.specs.Lost.{lost_answer, refusal_of, unit_of}
use Rattle.run_answers.specs.Sessions.{IsAnswerOf, Ran, NoEntry, NotReady, NotDefined, NoPlace, answer_of}
use Rattle.answers.specs.declared.answer.Answer.{Answer}
use Rattle.answers.specs.declared.answer.Answer.TheVariants.{AsmRefused, Done, Exited, Usage, ReadFault, FileFault, WriteFault, ScriptRefused, ObjectRefused, TooLong, Missing, LinkRefused, DepFailed, Trap, OutOfFuel, OutputFull, JournalFull, NoMemory, DefineRefused}
use Rattle.answers.proofs.Sinks.{kept_as, quiet_unless}
use Rattle.answers.proofs.Stops.{fault_parts, file_cases, loaded_never_stops, stops_so}

-- Answers of a session

-- what an entry that couldn't be made ready answers
pub lost_as : (P : Answer → Type 0) → P NoMemory → ((r : Refusal) → P (LinkRefused r.0 r.1 r.2)) → ((i : InstId) → P (DepFailed i)) → (h : List (Entry Meaning)) (i : InstId) → P (lost_answer h i)
lost_as P for_memory for_edge for_other h i = by_memory (wanted_memory h)
  where
    by_edge : (o : Option Refusal) → P (option_map_or (λ (r : Refusal). LinkRefused r.0 r.1 r.2) o (DepFailed i))
    by_edge None = for_other i
    by_edge (Some r) = for_edge r

    by_memory : (b : Bool) → P (if b then NoMemory else option_map_or (λ (r : Refusal). LinkRefused r.0 r.1 r.2) (option_and_then (refusal_of h) (unit_of h i)) (DepFailed i))
    by_memory true = for_memory
    by_memory false = by_edge (option_and_then (refusal_of h) (unit_of h i))

-- what holds of each answer of a session holds of this one
session_as : (P : Answer → Type 0) → ((e : RunEnd) → P (answer_of e)) → ((name : List ℕ) → P (Missing name)) → ((r : Refusal) → P (LinkRefused r.0 r.1 r.2)) → ((i : InstId) → P (DepFailed i)) → ((file : ℕ) → P (DefineRefused file)) → ((len : ℕ) → P (JournalFull len)) →
    (run : Request) (h : List (Entry Meaning)) (end : Linked) (answer : Answer) (output : List ℕ) → IsAnswerOf run h end answer output → P answer
session_as P ends missing edge other define full run h end answer output (Ran address memory a text has) = subst P (sym has.2) (ends has.0)
session_as P ends missing edge other define full run h end answer output NoEntry = missing run.entry
session_as P ends missing edge other define full run h end answer output (NotReady i some) = lost_as (λ a. a ≢ NoMemory → P a) (λ n. absurd (n refl)) (λ r n. edge r) (λ j n. other j) h i some
session_as P ends missing edge other define full run h end answer output (NotDefined word file is) = define file
session_as P ends missing edge other define full run h end answer output (NoPlace len) = full len

pub end_in_session : (e : RunEnd) → IsInSession (answer_of e)
end_in_session (HasExited code) = tt
end_in_session (HasTrapped pc cause) = tt
end_in_session IsOutOfFuel = tt
end_in_session IsFull = tt

pub answers_in_session : (run : Request) (h : List (Entry Meaning)) (end : Linked) (answer : Answer) (output : List ℕ) → IsAnswerOf run h end answer output → IsInSession answer
answers_in_session = session_as IsInSession end_in_session (λ name. tt) (λ r. tt) (λ i. tt) (λ file. tt) (λ len. tt)

-- no answer is one of a session and one from before
not_both : {P : Type 0} (a : Answer) → IsInSession a → IsBefore a → P
not_both Done i b = absurd i
not_both (Exited code) i b = absurd b
not_both (Usage kind) i b = absurd i
not_both ReadFault i b = absurd i
not_both (FileFault k) i b = absurd i
not_both WriteFault i b = absurd i
not_both (ScriptRefused line why) i b = absurd i
not_both (AsmRefused line why) i b = absurd i
not_both (ObjectRefused k why) i b = absurd i
not_both (TooLong k) i b = absurd i
not_both (Missing name) i b = absurd b
not_both (LinkRefused place kind v) i b = absurd b
not_both (DepFailed j) i b = absurd b
not_both (Trap pc cause) i b = absurd b
not_both OutOfFuel i b = absurd b
not_both OutputFull i b = absurd b
not_both (JournalFull len) i b = absurd b
not_both NoMemory i b = absurd i
not_both (DefineRefused file) i b = absurd b

-- a file that isn't taken in is no answer of a session
file_no_session : {P : Type 0} (e : LoadError) → IsInSession (file_answer e) → P
file_no_session (load.Fault k) i = absurd i
file_no_session (load.TooLong k) i = absurd i
file_no_session (load.Refused k why) i = absurd i
file_no_session load.NoMemory i = absurd i

-- What was found

-- the first file that isn't taken in, of those that the words name
abbrev Stops : Result Request UsageKind → Told → ℕ → ℕ → LoadError → Type 0
Stops asked told before after e = (run : Request) × (asked ≡ Ok run) × HasStopped told before after (distinct run.files) e

abbrev FaultsAt : Result Request UsageKind → ℕ → ℕ → ℕ → Type 0
FaultsAt asked before after k = (run : Request) × (asked ≡ Ok run) × (k < length (distinct run.files)) × Rose before after

-- when each answer may be found, with which output
abbrev Cause : Result Request UsageKind → Told → ℕ → ℕ → Answer → List ℕ → Type 0
Cause asked told before after Done output = ⊥
Cause asked told before after (Exited code) output = ⊤
Cause asked told before after (Usage kind) output = (asked ≡ Err kind) × (output ≡ [])
Cause asked told before after ReadFault output = ⊥
Cause asked told before after (FileFault k) output = FaultsAt asked before after k × (output ≡ [])
Cause asked told before after WriteFault output = ⊥
Cause asked told before after (ScriptRefused line why) output = ⊥
Cause asked told before after (AsmRefused line why) output = ⊥
Cause asked told before after (ObjectRefused k why) output = Stops asked told before after (load.Refused k why) × (output ≡ [])
Cause asked told before after (TooLong k) output = Stops asked told before after (load.TooLong k) × (output ≡ [])
Cause asked told before after (Missing name) output = output ≡ []
Cause asked told before after (LinkRefused place kind v) output = output ≡ []
Cause asked told before after (DepFailed i) output = output ≡ []
Cause asked told before after (Trap pc cause) output = ⊤
Cause asked told before after OutOfFuel output = ⊤
Cause asked told before after OutputFull output = ⊤
Cause asked told before after (JournalFull len) output = output ≡ []
Cause asked told before after NoMemory output = output ≡ []
Cause asked told before after (DefineRefused file) output = output ≡ []

end_cause : (asked : Result Request UsageKind) (told : Told) (before after : ℕ) (e : RunEnd) (output : List ℕ) → Cause asked told before after (answer_of e) output
end_cause asked told before after (HasExited code) output = tt
end_cause asked told before after (HasTrapped pc cause) output = tt
end_cause asked told before after IsOutOfFuel output = tt
end_cause asked told before after IsFull output = tt

session_cause : (asked : Result Request UsageKind) (told : Told) (before after : ℕ) (run : Request) (h : List (Entry Meaning)) (end : Linked) (answer : Answer) (output : List ℕ) → IsAnswerOf run h end answer output → Cause asked told before after answer output
session_cause asked told before after run h end answer output (Ran address memory a text has) = subst (λ x. Cause asked told before after x text) (sym has.2) (end_cause asked told before after has.0 text)
session_cause asked told before after run h end answer output NoEntry = refl
session_cause asked told before after run h end answer output (NotReady i some) = lost_as (λ a. Cause asked told before after a []) refl (λ r. refl) (λ j. refl) h i
session_cause asked told before after run h end answer output (NotDefined word file is) = refl
session_cause asked told before after run h end answer output (NoPlace len) = refl

file_cause : (asked : Result Request UsageKind) (told : Told) (before after : ℕ) (run : Request) → asked ≡ Ok run → (e : LoadError) → HasStopped told before after (distinct run.files) e → (output : List ℕ) → output ≡ [] → Cause asked told before after (file_answer e) output
file_cause asked told before after run q (load.Fault k) s output o = let parts = fault_parts told before after (distinct run.files) (load.Fault k) s k refl in ((run, q, parts.0, parts.1), o)
file_cause asked told before after run q (load.TooLong k) s output o = ((run, q, s), o)
file_cause asked told before after run q (load.Refused k why) s output o = ((run, q, s), o)
file_cause asked told before after run q load.NoMemory s output o = o

-- every answer that is found has its cause
cause_of : (jmax : ℕ) (asked : Result Request UsageKind) (told : Told) (before after : ℕ) (answer : Answer) (output journal : List ℕ)
    → IsFound jmax asked told before after answer output journal → Cause asked told before after answer output
cause_of jmax asked told before after answer output journal (in_words kind q e s _) = subst (λ a. Cause asked told before after a output) (sym e) (q, s)
cause_of jmax asked told before after answer output journal (in_files run d q stopped e s _) = subst (λ a. Cause asked told before after a output) (sym e) (file_cause asked told before after run q d stopped output s)
cause_of jmax asked told before after answer output journal (in_session run q s) = session_cause asked told before after run s.history s.end answer output s.answers
cause_of jmax asked told before after answer output journal (wanting e s _) = subst (λ a. Cause asked told before after a output) (sym e) s

-- what is found is one of these
form_of : (asked : Result Request UsageKind) (told : Told) (before after : ℕ) (answer : Answer) (output : List ℕ) → Cause asked told before after answer output → IsBefore answer ⊎ IsInSession answer ⊎ HasFailed answer
form_of asked told before after (Exited _) output c = inr (inl tt)
form_of asked told before after (Usage _) output c = inl tt
form_of asked told before after (FileFault _) output c = inl tt
form_of asked told before after (ObjectRefused _ _) output c = inl tt
form_of asked told before after (TooLong _) output c = inl tt
form_of asked told before after (Missing _) output c = inr (inl tt)
form_of asked told before after (LinkRefused _ _ _) output c = inr (inl tt)
form_of asked told before after (DepFailed _) output c = inr (inl tt)
form_of asked told before after (Trap _ _) output c = inr (inl tt)
form_of asked told before after OutOfFuel output c = inr (inl tt)
form_of asked told before after OutputFull output c = inr (inl tt)
form_of asked told before after (JournalFull _) output c = inr (inl tt)
form_of asked told before after NoMemory output c = inr (inr (inr refl))
form_of asked told before after (DefineRefused _) output c = inr (inl tt)
form_of asked told before after _ output c = absurd c

-- where no session was begun, there is no journal
no_journal : (jmax : ℕ) (asked : Result Request UsageKind) (told : Told) (before after : ℕ) (answer : Answer) (output journal : List ℕ) → IsFound jmax asked told before after answer output journal → (IsInSession answer → ⊥) → journal ≡ []
no_journal jmax asked told before after answer output journal (in_words _ _ _ _ j) b = j
no_journal jmax asked told before after answer output journal (in_files _ _ _ _ _ _ j) b = j
no_journal jmax asked told before after answer output journal (in_session run q s) b = absurd (b (answers_in_session run s.history s.end answer output s.answers))
no_journal jmax asked told before after answer output journal (wanting _ _ j) b = j

-- an answer of a session was found in one
session_found : (jmax : ℕ) (asked : Result Request UsageKind) (told : Told) (before after : ℕ) (answer : Answer) (output journal : List ℕ) → IsFound jmax asked told before after answer output journal → IsInSession answer →
    (run : Request) × (asked ≡ Ok run) × HasSession jmax told run answer output journal
session_found jmax asked told before after answer output journal (in_words _ _ e _ _) i = absurd (subst IsInSession e i)
session_found jmax asked told before after answer output journal (in_files run d q stopped e _ _) i = file_no_session d (subst IsInSession e i)
session_found jmax asked told before after answer output journal (in_session run q s) i = (run, q, s)
session_found jmax asked told before after answer output journal (wanting e _ _) i = absurd (subst IsInSession e i)

-- What was written

-- what was found and finished is answered
pub answered : (jmax : ℕ) (asked : Result Request UsageKind) (told : Told) (before after : ℕ) (out out' log log' : Held) (f answer : Answer) (output journal : List ℕ)
    → IsFound jmax asked told before after f output journal → IsFinished out out' log log' f output journal answer → IsAnswered jmax asked told before after out out' log log' answer
answered jmax asked told before after out out' log log' f answer output journal is (inl written) = found f output journal is written
answered jmax asked told before after out out' log log' f answer output journal is (inr written) = found NoMemory [] [] (wanting refl refl refl) written

-- the answer has its cause, and both texts were written whole
pub record Wholly (jmax : ℕ) (asked : Result Request UsageKind) (told : Told) (before after : ℕ) (out out' log log' : Held) (answer : Answer) : Type 0 where
  pub output : List ℕ
  pub journal : List ℕ
  pub is_found : IsFound jmax asked told before after answer output journal
  pub out_holds : HoldsWhole out out' output
  pub log_holds : HoldsWhole log log' (journal ++ end_line_of answer)

-- a failed write isn't found before writing
not_found : {P : Type 0} (jmax : ℕ) (asked : Result Request UsageKind) (told : Told) (before after : ℕ) (f : Answer) (output journal : List ℕ)
    → IsFound jmax asked told before after f output journal → f ≡ WriteFault → P
not_found jmax asked told before after f output journal is e = absurd (subst (λ a. Cause asked told before after a output) e (cause_of jmax asked told before after f output journal is))

module _ (jmax : ℕ) (asked : Result Request UsageKind) (told : Told) (before after : ℕ) (out out' log log' : Held) (answer : Answer) where
  abbrev Is : Type 0
  Is = IsAnswered jmax asked told before after out out' log log' answer

  -- an answer but that of a write that failed was written whole
  pub wholly : Is → answer ≢ WriteFault → Wholly jmax asked told before after out out' log log' answer
  wholly (found f output journal is (whole e ho hl)) _ = record {
    output = output;
    journal = journal;
    is_found = subst (λ a. IsFound jmax asked told before after a output journal) (sym e) is;
    out_holds = ho;
    log_holds = subst (λ a. HoldsWhole log log' (journal ++ end_line_of a)) (sym e) hl;
  }
  wholly (found f output journal is (out_failed e _ _ _)) nw = absurd (nw e)
  wholly (found f output journal is (log_failed e _ _ _)) nw = absurd (nw e)

  cause_at : Is → answer ≢ WriteFault → (output : List ℕ) × Cause asked told before after answer output
  cause_at is nw = let w = wholly is nw in (w.output, cause_of jmax asked told before after answer w.output w.journal w.is_found)

  caused : (a : Answer) → answer ≡ a → a ≢ WriteFault → Is → (output : List ℕ) × Cause asked told before after a output
  caused a e nw is = let c = cause_at is (λ w. nw (sym e ∙ w)) in (c.0, subst (λ x. Cause asked told before after x c.0) e c.1)

  -- The clauses

  pub usage_only : Is → (kind : UsageKind) → answer ≡ Usage kind → asked ≡ Err kind
  usage_only is kind e = (caused (Usage kind) e (λ w. cc) is).1.0

  pub in_form : Is → IsBefore answer ⊎ IsInSession answer ⊎ HasFailed answer
  in_form (found f output journal is (whole e _ _)) = subst (λ x. IsBefore x ⊎ IsInSession x ⊎ HasFailed x) (sym e) (form_of asked told before after f output (cause_of jmax asked told before after f output journal is))
  in_form (found f output journal is (out_failed e _ _ _)) = inr (inr (inl e))
  in_form (found f output journal is (log_failed e _ _ _)) = inr (inr (inl e))

  pub file_fault : Is → (k : ℕ) → answer ≡ FileFault k → FaultsAt asked before after k
  file_fault is k e = (caused (FileFault k) e (λ w. cc) is).1.0

  pub file_only : Is → (e : LoadError) → IsOfContents e → answer ≡ file_answer e → Stops asked told before after e
  file_only is (load.Fault k) of e = absurd of
  file_only is (load.TooLong k) of e = (caused (TooLong k) e (λ w. cc) is).1.0
  file_only is (load.Refused k why) of e = (caused (ObjectRefused k why) e (λ w. cc) is).1.0
  file_only is load.NoMemory of e = absurd of

  in_session_wholly : Is → IsInSession answer → Wholly jmax asked told before after out out' log log' answer
  in_session_wholly is i = wholly is (λ e. absurd (subst IsInSession e i))

  pub session : Is → IsInSession answer → OfSession jmax (call_of asked told before after out out' log log') answer
  session is i =
      let w = in_session_wholly is i in
      let f = session_found jmax asked told before after answer w.output w.journal w.is_found i in
      record {
        run = f.0;
        asks = f.1;
        names = f.2.names;
        history = f.2.history;
        end = f.2.end;
        session = f.2.session;
        output = w.output;
        answers = f.2.answers;
        written = w.out_holds.0;
        logged = (subst (λ text. HoldsWhole log log' (text ++ end_line_of answer)) f.2.text w.log_holds).0;
      }

  pub log_line : Is → IsBefore answer → HoldsWhole log log' (end_line_of answer)
  log_line is b =
      let w = wholly is (λ e. absurd (subst IsBefore e b)) in
      subst (λ text. HoldsWhole log log' (text ++ end_line_of answer)) (no_journal jmax asked told before after answer w.output w.journal w.is_found (λ i. not_both answer i b)) w.log_holds

  pub write_fault : Is → answer ≡ WriteFault → Rose out.faults out'.faults ⊎ Rose log.faults log'.faults
  write_fault (found f output journal is (whole a _ _)) e = not_found jmax asked told before after f output journal is (sym a ∙ e)
  write_fault (found f output journal is (out_failed _ r _ _)) e = inl r.0
  write_fault (found f output journal is (log_failed _ r _ _)) e = inr r.0

  pub cut : Is → answer ≡ WriteFault → IsCut jmax (call_of asked told before after out out' log log')
  cut (found f output journal is (whole a _ _)) e = not_found jmax asked told before after f output journal is (sym a ∙ e)
  cut (found f output journal is (out_failed _ r ho hl)) e = record { found = f; output = output; journal = journal; is_found = is; sinks = inl (r, ho, hl) }
  cut (found f output journal is (log_failed _ r ho hl)) e = record { found = f; output = output; journal = journal; is_found = is; sinks = inr (r, ho, hl) }

  pub quiet : Is → answer ≢ WriteFault → AreQuiet out out' log log'
  quiet (found f output journal is w) apart = quiet_unless out out' log log' f output journal answer w apart

  pub memory_wanting : Is → answer ≡ NoMemory → IsWanting (call_of asked told before after out out' log log')
  memory_wanting (found f output journal is (whole a ho hl)) e =
      let n : f ≡ NoMemory = sym a ∙ e in
      let none = no_journal jmax asked told before after f output journal is (λ i. absurd (subst IsInSession n i)) in
      record {
        out_same = (subst (λ text. HoldsWhole out out' text) (subst (λ x. Cause asked told before after x output) n (cause_of jmax asked told before after f output journal is)) ho).0;
        logged = (subst (λ text. HoldsWhole log log' (text ++ end_line_of NoMemory)) none (subst (λ x. HoldsWhole log log' (journal ++ end_line_of x)) n hl)).0;
      }
  memory_wanting (found f output journal is (out_failed a _ _ _)) e = absurd (cc)
  memory_wanting (found f output journal is (log_failed a _ _ _)) e = absurd (cc)

-- an answer without a run has no output
quiet_output : (asked : Result Request UsageKind) (told : Told) (before after : ℕ) (answer : Answer) (output : List ℕ) → IsQuiet answer → Cause asked told before after answer output → output ≡ []
quiet_output asked told before after Done output q c = absurd c
quiet_output asked told before after (Exited _) output q c = absurd q
quiet_output asked told before after (Usage _) output q c = c.1
quiet_output asked told before after ReadFault output q c = absurd c
quiet_output asked told before after (FileFault _) output q c = c.1
quiet_output asked told before after WriteFault output q c = absurd q
quiet_output asked told before after (ScriptRefused _ _) output q c = absurd c
quiet_output asked told before after (AsmRefused _ _) output q c = absurd c
quiet_output asked told before after (ObjectRefused _ _) output q c = c.1
quiet_output asked told before after (TooLong _) output q c = c.1
quiet_output asked told before after (Missing _) output q c = c
quiet_output asked told before after (LinkRefused _ _ _) output q c = c
quiet_output asked told before after (DepFailed _) output q c = c
quiet_output asked told before after (Trap _ _) output q c = absurd q
quiet_output asked told before after OutOfFuel output q c = absurd q
quiet_output asked told before after OutputFull output q c = absurd q
quiet_output asked told before after (JournalFull _) output q c = c
quiet_output asked told before after NoMemory output q c = c
quiet_output asked told before after (DefineRefused _) output q c = c

-- what the words tell of what was found

usage_found : (jmax : ℕ) (asked : Result Request UsageKind) (told : Told) (before after : ℕ) (f : Answer) (output journal : List ℕ) (kind : UsageKind)
    → IsFound jmax asked told before after f output journal → asked ≡ Err kind → (f ≡ Usage kind) ⊎ HasFailed f
usage_found jmax asked told before after f output journal kind (in_words k q e _ _) h = let same : k ≡ kind = cc in inl (e ∙ ap Usage same)
usage_found jmax asked told before after f output journal kind (in_files run d q _ _ _ _) h = absurd (cc)
usage_found jmax asked told before after f output journal kind (in_session run q _) h = absurd (cc)
usage_found jmax asked told before after f output journal kind (wanting e _ _) h = inr (inr e)

files_found : (jmax : ℕ) (asked : Result Request UsageKind) (told : Told) (before after : ℕ) (f : Answer) (output journal : List ℕ) (contents : List ℕ → Option (List ℕ)) (run : Request) (e : LoadError)
    → told ≡ Some contents → asked ≡ Ok run → IsOfContents e → HasStopped told 0 0 (distinct run.files) e → IsFound jmax asked told before after f output journal → (f ≡ file_answer e) ⊎ HasFault f
files_found jmax asked told before after f output journal contents run e t a of stopped (in_words k q _ _ _) = absurd (cc)
files_found jmax asked told before after f output journal contents run e t a of stopped (in_files other d q there is _ _) = file_cases d f is by_contents (λ k p. inr (inl (k, p))) (λ p. inr (inr (inr p)))
  where
    same : other ≡ run
    same = cc

    by_contents : IsOfContents d → (f ≡ file_answer e) ⊎ HasFault f
    by_contents by = inl (is ∙ ap file_answer (stops_so contents (distinct run.files) before after 0 0 d e by of
        (subst (λ x. HasStopped x before after (distinct run.files) d) t (subst (λ (r : Request). HasStopped told before after (distinct r.files) d) same there))
        (subst (λ x. HasStopped x 0 0 (distinct run.files) e) t stopped)))
files_found jmax asked told before after f output journal contents run e t a of stopped (in_session other q s) =
    let same : other ≡ run = cc in
    let loaded = subst (λ (r : Request). AreLoaded told (distinct r.files) s.names s.session.file_units) same s.session.loaded in
    loaded_never_stops contents (distinct run.files) s.names s.session.file_units 0 0 e of
    (subst (λ x. HasStopped x 0 0 (distinct run.files) e) t stopped)
    (subst (λ x. AreLoaded x (distinct run.files) s.names s.session.file_units) t loaded)
files_found jmax asked told before after f output journal contents run e t a of stopped (wanting q _ _) = inr (inr (inr q))

loaded_found : (jmax : ℕ) (asked : Result Request UsageKind) (told : Told) (before after : ℕ) (f : Answer) (output journal : List ℕ) (contents : List ℕ → Option (List ℕ)) (run : Request) (names : List (List ℕ)) (units : List Meaning)
    → told ≡ Some contents → asked ≡ Ok run → AreLoaded told (distinct run.files) names units → IsFound jmax asked told before after f output journal → IsInSession f ⊎ HasFault f
loaded_found jmax asked told before after f output journal contents run names units t a loaded (in_words k q _ _ _) = absurd (cc)
loaded_found jmax asked told before after f output journal contents run names units t a loaded (in_files other d q there is _ _) = file_cases d f is by_contents (λ k p. inr (inl (k, p))) (λ p. inr (inr (inr p)))
  where
    same : other ≡ run
    same = cc

    by_contents : IsOfContents d → IsInSession f ⊎ HasFault f
    by_contents by = loaded_never_stops contents (distinct run.files) names units before after d by
        (subst (λ x. HasStopped x before after (distinct run.files) d) t (subst (λ (r : Request). HasStopped told before after (distinct r.files) d) same there))
        (subst (λ x. AreLoaded x (distinct run.files) names units) t loaded)
loaded_found jmax asked told before after f output journal contents run names units t a loaded (in_session other q s) = inl (answers_in_session other s.history s.end f output s.answers)
loaded_found jmax asked told before after f output journal contents run names units t a loaded (wanting q _ _) = inr (inr (inr q))

-- and so of what is answered
module _ (jmax : ℕ) (asked : Result Request UsageKind) (told : Told) (before after : ℕ) (out out' log log' : Held) (answer : Answer) where
  abbrev IsNow : Type 0
  IsNow = IsAnswered jmax asked told before after out out' log log' answer

  pub usage_told : IsNow → (kind : UsageKind) → asked ≡ Err kind → (answer ≡ Usage kind) ⊎ HasFailed answer
  usage_told (found f output journal is w) kind h = kept_as (λ a. (a ≡ Usage kind) ⊎ HasFailed a) out out' log log' f output journal answer w
      (usage_found jmax asked told before after f output journal kind is h) (inr (inl refl))

  pub file_told : IsNow → (run : Request) (e : LoadError) → asked ≡ Ok run → (contents : List ℕ → Option (List ℕ)) × (told ≡ Some contents) → IsOfContents e → HasStopped told 0 0 (distinct run.files) e → (answer ≡ file_answer e) ⊎ HasFault answer
  file_told (found f output journal is w) run e a t of stopped = kept_as (λ x. (x ≡ file_answer e) ⊎ HasFault x) out out' log log' f output journal answer w
      (files_found jmax asked told before after f output journal t.0 run e t.1 a of stopped is) (inr (inr (inl refl)))

  pub session_told : IsNow → (run : Request) (names : List (List ℕ)) (units : List Meaning) → asked ≡ Ok run → (contents : List ℕ → Option (List ℕ)) × (told ≡ Some contents) → AreLoaded told (distinct run.files) names units → IsInSession answer ⊎ HasFault answer
  session_told (found f output journal is w) run names units a t loaded = kept_as (λ x. IsInSession x ⊎ HasFault x) out out' log log' f output journal answer w
      (loaded_found jmax asked told before after f output journal t.0 run names units t.1 a loaded is) (inr (inr (inl refl)))

  pub out_quiet : IsNow → IsQuiet answer → HoldsAsBefore out out'
  out_quiet (found f output journal is (whole e ho hl)) q =
      subst (λ text. HoldsWhole out out' text) (quiet_output asked told before after f output (subst IsQuiet e q) (cause_of jmax asked told before after f output journal is)) ho
  out_quiet (found f output journal is (out_failed e _ _ _)) q = absurd (subst IsQuiet e q)
  out_quiet (found f output journal is (log_failed e _ _ _)) q = absurd (subst IsQuiet e q)
