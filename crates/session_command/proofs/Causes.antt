-- What each answer is found for.
use Rattle.std.proofs.Common.{◌≡◌, ℕ, ◌<◌, ◌⊎◌, inl, inr, Bool, true, false, List, [], ◌∷◌, length, map, Option, refl, sym, subst}
use Rattle.std.specs.Bool.{if◌then◌else◌, ⊤}
use Rattle.orc_ids.specs.declared.lookup.Outcome.{Outcome}
use Rattle.orc_ids.specs.declared.lookup.Stop.{Stop}
use Rattle.orc_ids.specs.declared.lookup.Stop.TheVariants as stop
use Rattle.orc_io.specs.Causes.{Rose}
use Rattle.session_model.specs.Meaning.{Meaning}
use Rattle.session_model.specs.declared.entry.Entry.{Entry}
use Rattle.object_files.specs.Files.{HasStopped}
use Rattle.object_files.specs.declared.error.LoadError.{LoadError}
use Rattle.object_files.specs.declared.error.LoadError.TheVariants as load
use Rattle.session_script.specs.declared.script.Script.{Script}
use Rattle.script_model.specs.declared.line_end.LineEnd.{LineEnd}
use Rattle.answers.specs.Files.{IsOfContents, file_answer}
use Rattle.answers.specs.Memory.{wanted_memory}
use Rattle.answers.specs.declared.answer.Answer.{Answer}
use Rattle.answers.specs.declared.answer.Answer.TheVariants.{Done, ReadFault, FileFault, WriteFault, ScriptRefused, ObjectRefused, TooLong, JournalFull, NoMemory}
use Rattle.answers.proofs.Stops.{fault_parts}
use Rattle.notifiers.specs.declared.notes.Noted.TheVariants.{Unfired}
use Rattle.session_command.specs.Clauses.{Call, Finds, HasFailed, IsAsked, IsBefore, IsOfSession}
use Rattle.session_command.specs.Ends.{session_answer, stop_answer, stops_answer, stops_of, worse}
use Rattle.session_command.specs.Found.{HasSession, IsRefusedOn, in_source, in_script, in_files, in_session, wanting}
use Rattle.session_command.specs.Texts.{counted}

-- Answers of a session

-- a session's answer is one of these
abbrev IsEnd : Answer → Type 0
IsEnd Done = ⊤
IsEnd (JournalFull _) = ⊤
IsEnd NoMemory = ⊤
IsEnd _ = ⊥

end_as : (P : Answer → Type 0) → P Done → ((len : ℕ) → P (JournalFull len)) → P NoMemory → (a : Answer) → IsEnd a → P a
end_as P done full none Done i = done
end_as P done full none (JournalFull len) i = full len
end_as P done full none NoMemory i = none
end_as P done full none _ i = absurd i

worse_end : (a b : Answer) → IsEnd a → IsEnd b → IsEnd (worse a b)
worse_end Done b i j = j
worse_end (JournalFull _) NoMemory i j = tt
worse_end (JournalFull _) (JournalFull _) i j = tt
worse_end (JournalFull _) _ i j = tt
worse_end NoMemory b i j = tt
worse_end _ b i j = absurd i

stop_end : (st : Stop) → IsEnd (stop_answer st)
stop_end (stop.JournalFull len) = tt
stop_end stop.NoMemory = tt

stops_end : (before : Answer) (sts : List Stop) → IsEnd before → IsEnd (stops_answer before sts)
stops_end before [] i = i
stops_end before (st ∷ sts) i = stops_end (worse before (stop_answer st)) sts (worse_end before (stop_answer st) i (stop_end st))

session_end : (h : List (Entry Meaning)) (stopped : Option Stop) (ends : List (List LineEnd)) → IsEnd (session_answer h stopped ends)
session_end h stopped ends = by_memory (wanted_memory h)
  where
    by_memory : (b : Bool) → IsEnd (if b then NoMemory else stops_answer Done (stops_of stopped ends))
    by_memory true = tt
    by_memory false = stops_end Done (stops_of stopped ends) tt

-- what holds of each of them holds of this one
pub session_as : (P : Answer → Type 0) → P Done → ((len : ℕ) → P (JournalFull len)) → P NoMemory → (h : List (Entry Meaning)) (stopped : Option Stop) (ends : List (List LineEnd)) → P (session_answer h stopped ends)
session_as P done full none h stopped ends = end_as P done full none (session_answer h stopped ends) (session_end h stopped ends)

-- what neither the source nor a file is the cause of
abbrev IsOther : Answer → Type 0
IsOther WriteFault = ⊤
IsOther answer = IsEnd answer

-- that is no answer from before a session
never_before : {P : Type 0} (a : Answer) (e : LoadError) → IsOfContents e → a ≡ file_answer e → IsOther a → P
never_before a (load.Fault k) of q other = absurd of
never_before a (load.TooLong k) of q other = absurd (subst IsOther q other)
never_before a (load.Refused k why) of q other = absurd (subst IsOther q other)
never_before a load.NoMemory of q other = absurd of

session_later : {P : Type 0} (a : Answer) (h : List (Entry Meaning)) (stopped : Option Stop) (ends : List (List LineEnd)) → a ≡ session_answer h stopped ends → IsBefore a → P
session_later a h stopped ends q b = absurd (session_as (λ x. IsBefore x → ⊥)
    (λ d. never_before Done d.0 d.1 d.2 tt)
    (λ len d. never_before (JournalFull len) d.0 d.1 d.2 tt)
    (λ d. never_before NoMemory d.0 d.1 d.2 tt)
    h stopped ends (subst IsBefore q b))

never_wanting : {P : Type 0} (a : Answer) → a ≡ NoMemory → IsBefore a → P
never_wanting a q b = let d = subst IsBefore q b in never_before NoMemory d.0 d.1 d.2 tt

pub write_later : {P : Type 0} → IsBefore WriteFault → P
write_later d = never_before WriteFault d.0 d.1 d.2 tt

-- What was found

module _ {N : Type 0} (heard : N → Option Outcome) (number : N → ℕ) (jmax : ℕ) (c : Call N) where
  abbrev pub Session : Answer → List ℕ → Type 0
  Session f output = HasSession heard number jmax c.workers c.handed c.source_before.bytes c.told f output c.back

  -- the first of the script's files that isn't taken in, for this reason
  abbrev Stops : LoadError → Type 0
  Stops e = (script : Script) × IsAsked c script × HasStopped c.told c.faults_before c.faults_after script.files e

  -- what each answer is found for; the others are never found
  abbrev pub Cause : Answer → List ℕ → Type 0
  Cause Done output = Session Done output
  Cause (JournalFull len) output = Session (JournalFull len) output
  Cause ReadFault output = Rose c.source_before.faults c.source_after.faults
  Cause (ScriptRefused line why) output = IsRefusedOn c.source_before.bytes (counted (length c.handed)) line why
  Cause (FileFault k) output = (script : Script) × IsAsked c script × (k < length script.files) × Rose c.faults_before c.faults_after
  Cause (TooLong k) output = Stops (load.TooLong k)
  Cause (ObjectRefused k why) output = Stops (load.Refused k why)
  Cause NoMemory output = ⊤
  Cause _ output = ⊥

  file_cause : (e : LoadError) (output : List ℕ) → Stops e → Cause (file_answer e) output
  file_cause (load.Fault k) output s = let parts = fault_parts c.told c.faults_before c.faults_after s.0.files (load.Fault k) s.2 k refl in (s.0, s.1, parts.0, parts.1)
  file_cause (load.TooLong k) output s = s
  file_cause (load.Refused k why) output s = s
  file_cause load.NoMemory output s = tt

  session_cause : (f : Answer) (output : List ℕ) → Session f output → Cause f output
  session_cause f output s = subst (λ x. Session x output → Cause x output) (sym s.answers) (session_as (λ x. Session x output → Cause x output) (λ t. t) (λ len t. t) (λ t. tt) s.history s.stopped s.ends) s

  pub cause_of : (f : Answer) (output : List ℕ) → Finds heard number jmax c f output → Cause f output
  cause_of f output (in_source rose e o b) = subst (λ x. Cause x output) (sym e) rose
  cause_of f output (in_script line why refused e o b) = subst (λ x. Cause x output) (sym e) refused
  cause_of f output (in_files script d asked stopped e o b) = subst (λ x. Cause x output) (sym e) (file_cause d output (script, asked, stopped))
  cause_of f output (in_session s) = session_cause f output s
  cause_of f output (wanting e o) = subst (λ x. Cause x output) (sym e) tt

  -- so it is one of these
  pub answer_of : (f : Answer) (output : List ℕ) → Cause f output → IsOfSession f ⊎ IsBefore f ⊎ HasFailed f
  answer_of Done output cause = inl (inl refl)
  answer_of (JournalFull len) output cause = inl (inr (len, refl))
  answer_of ReadFault output cause = inr (inl tt)
  answer_of (ScriptRefused line why) output cause = inr (inl tt)
  answer_of (FileFault k) output cause = inr (inl tt)
  answer_of (TooLong k) output cause = inr (inl (load.TooLong k, tt, refl))
  answer_of (ObjectRefused k why) output cause = inr (inl (load.Refused k why, tt, refl))
  answer_of NoMemory output cause = inr (inr (inr refl))
  answer_of _ output cause = absurd cause

  -- where no session was run, there is no text, and nobody was told
  pub no_text : (f : Answer) (output : List ℕ) → Finds heard number jmax c f output → IsBefore f → (output ≡ []) × (c.back ≡ map Unfired c.handed)
  no_text f output (in_source rose e o b) before = (o, b)
  no_text f output (in_script line why refused e o b) before = (o, b)
  no_text f output (in_files script d asked stopped e o b) before = (o, b)
  no_text f output (in_session s) before = session_later f s.history s.stopped s.ends s.answers before
  no_text f output (wanting e o) before = never_wanting f e before
