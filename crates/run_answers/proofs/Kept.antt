-- A call that found its answer and wrote it keeps the promise of the top call.
use Rattle.std.proofs.Common.{◌≡◌, ◌<◌, ℕ, ◌+◌, List, [], ◌∷◌, ◌++◌, length, Some, None, Result, refl, sym, ◌∙◌, ap, subst, arith, append_assoc}
use Rattle.std.specs.Prelude.{take}
use Rattle.std.specs.Io.KnownBytes.{Appends}
use Rattle.std.specs.List.{All}
use Rattle.std.proofs.Math.Seq.{take-append_seam}
use Rattle.std.proofs.lemmas.List.{length-append}
use Rattle.orc_ids.specs.declared.ids.InstId.{InstId}
use Rattle.orc_ids.specs.declared.ids.NameId.{NameId}
use Rattle.code_memory.specs.declared.image.Segment.{Segment}
use Rattle.exec_run.specs.declared.ran.RunEnd.{RunEnd}
use Rattle.exec_run.specs.declared.ran.RunEnd.TheVariants.{Exited as HasExited, Trap as HasTrapped, OutOfFuel as IsOutOfFuel, OutputFull as IsFull}
use Rattle.session_model.specs.Calls.{Looks, numbered_calls}
use Rattle.session_model.specs.Meaning.{Meaning, Refusal}
use Rattle.session_model.specs.State.{state}
use Rattle.session_model.specs.declared.entry.Entry.{Entry}
use Rattle.session_model.specs.declared.entry.Event.TheVariants as event
use Rattle.session_model.specs.declared.entry.Reply.TheVariants as reply
use Rattle.static_links.proofs.Linked.{image_is_linked}
use Rattle.memory_laws.proofs.Holding.{intact_holds}
use Rattle.memory_laws.proofs.Objects.{names_are_defined}
use Rattle.memory_laws.specs.Objects.{IsProgram}
use Rattle.memory_laws.proofs.Linked.{holds_program, linked_by_names}
use Rattle.memory_laws.specs.LinkLaws.{MemoryHoldsProgram}
use Rattle.memory_laws.specs.Programs.{HasAddresses}
use Rattle.command_line.specs.Words.{Request}
use Rattle.command_line.specs.declared.error.UsageKind.{UsageKind}
use Rattle.object_files.specs.Files.{Told}
use Rattle.run_laws.specs.Ended.{AreMemory, Ended, IsRun}
use Rattle.run_laws.specs.Runs.{IsRunBy, IsSetUp, lookup_of}
use Rattle.run_laws.specs.declared.linked.Linked.{Linked}
use Rattle.run_laws.specs.declared.linked.Linked.TheVariants as linked
use Rattle.answers.specs.Written.{Held}
use Rattle.run_answers.specs.Answered.{IsAnswered}
use Rattle.run_answers.specs.ByNames.{IsProgramRun}
use Rattle.run_answers.specs.Clauses.{Answers, Call, IsCopyAt, IsInSession, IsRunOfProgram, OfSession, call_of}
use Rattle.run_answers.specs.Laws.{AnswersAreKept}
use Rattle.run_answers.specs.Sessions.{HasRun, IsAnswerOf, Ran, NoEntry, NotReady, NotDefined, NoPlace, answer_of}
use Rattle.answers.specs.declared.answer.Answer.{Answer}
use Rattle.answers.specs.declared.answer.Answer.TheVariants.{DefineRefused, DepFailed, JournalFull, LinkRefused, Missing, NoMemory}
use Rattle.run_answers.proofs.ByNames.{program_agrees}
use Rattle.run_answers.proofs.Clauses as clauses
use Rattle.run_answers.proofs.Clauses.{end_in_session, lost_as}
use Rattle.run_answers.proofs.Found.{EntryFound, StandsAt, entry_found, stands_at}
use Rattle.run_answers.proofs.Full.{run_by}
use Rattle.run_answers.proofs.Quiet.{names_are_kept}
use Rattle.run_answers.proofs.Words.{are_units, have_addresses, plain_units}

-- An answer that is the end of a run

-- what was run
record RanAt (run : Request) (end : Linked) (answer : Answer) (output : List ℕ) : Type 0 where
  address : ℕ
  ranges : List Segment
  is : end ≡ linked.Found address ranges
  has : HasRun address ranges run.fuel answer output

missing_no_end : (name : List ℕ) (e : RunEnd) → Missing name ≡ answer_of e → ⊥
missing_no_end name (HasExited code) q = cc
missing_no_end name (HasTrapped pc cause) q = cc
missing_no_end name IsOutOfFuel q = cc
missing_no_end name IsFull q = cc

wanting_no_end : (e : RunEnd) → NoMemory ≡ answer_of e → ⊥
wanting_no_end (HasExited code) q = cc
wanting_no_end (HasTrapped pc cause) q = cc
wanting_no_end IsOutOfFuel q = cc
wanting_no_end IsFull q = cc

edge_no_end : (r : Refusal) (e : RunEnd) → LinkRefused r.0 r.1 r.2 ≡ answer_of e → ⊥
edge_no_end r (HasExited code) q = cc
edge_no_end r (HasTrapped pc cause) q = cc
edge_no_end r IsOutOfFuel q = cc
edge_no_end r IsFull q = cc

other_no_end : (i : InstId) (e : RunEnd) → DepFailed i ≡ answer_of e → ⊥
other_no_end i (HasExited code) q = cc
other_no_end i (HasTrapped pc cause) q = cc
other_no_end i IsOutOfFuel q = cc
other_no_end i IsFull q = cc

define_no_end : (file : ℕ) (e : RunEnd) → DefineRefused file ≡ answer_of e → ⊥
define_no_end file (HasExited code) q = cc
define_no_end file (HasTrapped pc cause) q = cc
define_no_end file IsOutOfFuel q = cc
define_no_end file IsFull q = cc

full_no_end : (len : ℕ) (e : RunEnd) → JournalFull len ≡ answer_of e → ⊥
full_no_end len (HasExited code) q = cc
full_no_end len (HasTrapped pc cause) q = cc
full_no_end len IsOutOfFuel q = cc
full_no_end len IsFull q = cc

ran_at : (run : Request) (h : List (Entry Meaning)) (end : Linked) (answer : Answer) (output : List ℕ) (e : RunEnd) → IsAnswerOf run h end answer output → answer ≡ answer_of e → RanAt run end answer output
ran_at run h end answer output e (Ran address ranges a text has) q = record { address = address; ranges = ranges; is = refl; has = has }
ran_at run h end answer output e NoEntry q = absurd (missing_no_end run.entry e q)
ran_at run h end answer output e (NotReady i some) q = absurd (lost_as (λ a. a ≡ answer_of e → ⊥) (wanting_no_end e) (λ r. edge_no_end r e) (λ j. other_no_end j e) h i q)
ran_at run h end answer output e (NotDefined word file is) q = absurd (define_no_end file e q)
ran_at run h end answer output e (NoPlace len) q = absurd (full_no_end len e q)

-- The session of it: the entry was looked up, and the memory copied
record WasReady (main entry : NameId) (units : List Meaning) (h setup : List (Entry Meaning)) (address : ℕ) (ranges : List Segment) : Type 0 where
  before : List (ℕ × Entry Meaning)
  last : ℕ × Entry Meaning
  copy : ℕ × Entry Meaning
  at : ℕ
  inst : InstId
  set_up : IsSetUp main units setup
  calls : numbered_calls 1 1 h ≡ (before ++ last ∷ []) ++ copy ∷ []
  looks : Looks h (lookup_of entry) (before ++ last ∷ [])
  found : last.1.reply ≡ reply.Found at (Some (inst, address) ∷ [])
  image : copy.1.event ≡ event.Image
  memory_is : AreMemory (state (take copy.0 h)) ranges

was_ready : (jmax : ℕ) (main entry : NameId) (units : List Meaning) (h setup later : List (Entry Meaning)) (end : Linked) → Ended jmax main entry units h setup later end → (address : ℕ) (ranges : List Segment) → end ≡ linked.Found address ranges → WasReady main entry units h setup address ranges
was_ready jmax main entry units h setup later end (Ended.InDefinition k refused none) address ranges e = absurd (cc)
was_ready jmax main entry units h setup later end (Ended.InSetUp n st to at few none cause) address ranges e = absurd (cc)
was_ready jmax main entry units h setup later end (Ended.InLookup st set_up stopped cause) address ranges e = absurd (cc)
was_ready jmax main entry units h setup later end (Ended.NotThere before n c set_up calls looks is) address ranges e = absurd (cc)
was_ready jmax main entry units h setup later end (Ended.NotReady before n c at i set_up calls looks is) address ranges e = absurd (cc)
was_ready jmax main entry units h setup later end (Ended.IsReady before m n at a last copy i rs set_up calls looks is image memory) address ranges e =
    let same_address : a ≡ address = cc in
    let same_ranges : rs ≡ ranges = cc in
    record {
      before = before;
      last = (m, last);
      copy = (n, copy);
      at = at;
      inst = i;
      set_up = set_up;
      calls = calls;
      looks = looks;
      found = subst (λ x. last.reply ≡ reply.Found at (Some (i, x) ∷ [])) same_address is;
      image = image;
      memory_is = subst (λ s. AreMemory (state (take n h)) s) same_ranges memory;
    }

-- the copy's number counts the entries up to it
copy_at : (h : List (Entry Meaning)) (before : List (ℕ × Entry Meaning)) (copy : ℕ × Entry Meaning) → numbered_calls 1 1 h ≡ before ++ copy ∷ [] → copy.1.event ≡ event.Image → IsCopyAt h copy.0
copy_at h before copy calls image = record { copy = copy.1; before = s.past; is = is; event_is = image }
  where
    s : StandsAt 1 1 h copy []
    s = stands_at 1 1 h before [] copy calls

    parts : h ≡ (s.past ++ copy.1 ∷ []) ++ s.rest
    parts = s.parts ∙ sym (append_assoc s.past (copy.1 ∷ []) s.rest)

    number : copy.0 ≡ length (s.past ++ copy.1 ∷ [])
    number = let n = s.number in omega (arith, n, length-append s.past (copy.1 ∷ []))

    is : take copy.0 h ≡ s.past ++ copy.1 ∷ []
    is = ap (λ n. take n h) number ∙ (ap (take (length (s.past ++ copy.1 ∷ []))) parts ∙ take-append_seam (s.past ++ copy.1 ∷ []) s.rest)

-- a later call has a higher number
copied_later : (h : List (Entry Meaning)) (before : List (ℕ × Entry Meaning)) (last copy : ℕ × Entry Meaning) → numbered_calls 1 1 h ≡ (before ++ last ∷ []) ++ copy ∷ [] → last.0 < copy.0
copied_later h before last copy calls =
    let s = stands_at 1 1 h before (copy ∷ []) last (calls ∙ append_assoc before (last ∷ []) (copy ∷ [])) in
    let t = stands_at 1 (last.0 + 1) s.rest [] [] copy s.calls in
    let number = t.number in
    omega (arith, number)

-- The promise

module _ (holds : MemoryHoldsProgram) (jmax : ℕ) (asked : Result Request UsageKind) (told : Told) (before after : ℕ) (out out' log log' : Held) (answer : Answer) (answered : IsAnswered jmax asked told before after out out' log log' answer) where
  abbrev c : Call
  c = call_of asked told before after out out' log log'

  by_names : (e : RunEnd) → answer ≡ answer_of e → IsRunOfProgram jmax c answer
  by_names e q = record { of_session = s; number = w.copy.0; copied = copy_at h (w.before ++ w.last ∷ []) w.copy w.calls w.image; agrees = agrees }
    where
      s : OfSession jmax c answer
      s = clauses.session jmax asked told before after out out' log log' answer answered (subst IsInSession (sym q) (end_in_session e))

      h : List (Entry Meaning)
      h = s.history

      units : List Meaning
      units = s.session.units

      run : IsRun jmax s.run.workers s.session.main s.session.entry units h s.end
      run = s.session.is_run

      ran : RanAt s.run s.end answer s.output
      ran = ran_at s.run h s.end answer s.output e s.answers q

      w : WasReady s.session.main s.session.entry units h run.setup ran.address ran.ranges
      w = was_ready jmax s.session.main s.session.entry units h run.setup run.later s.end run.ended ran.address ran.ranges ran.is

      plain : All (λ (u : Meaning). u.source ≡ None) units
      plain = plain_units told s.run.files s.names s.session.file_units units s.session.loaded s.session.of_words

      by : IsRunBy jmax s.session.main units h run.setup run.later
      by = run_by jmax s.run.workers s.session.main s.session.entry units h s.end run w.set_up plain

      found : EntryFound h run.setup s.session.entry w.last.0 w.inst ran.address
      found = entry_found jmax s.session.main s.session.entry units h run.setup run.later by w.last (w.copy ∷ []) w.inst w.at ran.address w.found w.before w.calls w.looks

      agrees : (end : RunEnd) (output : List ℕ) → IsProgramRun s.run.files s.session.loaded.graphs s.session.entry.0 s.run.fuel (take w.copy.0 h) end output → (answer ≡ answer_of end) × Appends out.bytes out'.bytes output
      agrees end output r =
          let same = program_agrees holds jmax h run.legal r.graphs program addresses s.session.entry w.last.0 w.copy.0 w.inst ran.address found (copied_later h w.before w.last w.copy w.calls)
          s.run.fuel ran.ranges w.memory_is end ran.has.0 output s.output r.program r.linked r.stays r.runs ran.has.1 in
          (ran.has.2 ∙ ap answer_of same.0, subst (λ text. Appends out.bytes out'.bytes text) same.1 s.written)
        where
          program : IsProgram r.graphs h
          program = record {
            main = s.session.main;
            units = units;
            are = are_units told s.run.files s.names s.session.file_units units s.session.loaded s.session.of_words r.graphs r.are;
            setup = run.setup;
            later = run.later;
            parts = run.parts;
            events = w.set_up.events;
            done = w.set_up.done;
            quiet = names_are_kept jmax s.session.main s.session.entry units h run.setup run.later by (w.before ++ w.last ∷ []) w.copy w.calls w.looks w.image;
          }

          addresses : All HasAddresses r.graphs
          addresses = have_addresses told s.run.files s.names s.session.file_units units s.session.loaded s.session.of_words r.graphs r.are

  answers : Answers jmax c answer
  answers = record {
    usage_only = clauses.usage_only jmax asked told before after out out' log log' answer answered;
    usage_told = clauses.usage_told jmax asked told before after out out' log log' answer answered;
    answers = clauses.in_form jmax asked told before after out out' log log' answer answered;
    file_fault = clauses.file_fault jmax asked told before after out out' log log' answer answered;
    write_fault = clauses.write_fault jmax asked told before after out out' log log' answer answered;
    file_only = clauses.file_only jmax asked told before after out out' log log' answer answered;
    file_told = clauses.file_told jmax asked told before after out out' log log' answer answered;
    session_told = clauses.session_told jmax asked told before after out out' log log' answer answered;
    session = clauses.session jmax asked told before after out out' log log' answer answered;
    by_names = by_names;
    out_quiet = λ q. (clauses.out_quiet jmax asked told before after out out' log log' answer answered q).0;
    log_line = λ b. (clauses.log_line jmax asked told before after out out' log log' answer answered b).0;
    quiet = clauses.quiet jmax asked told before after out out' log log' answer answered;
    cut = clauses.cut jmax asked told before after out out' log log' answer answered;
    wanting = clauses.memory_wanting jmax asked told before after out out' log log' answer answered;
  }

memory_holds_program : MemoryHoldsProgram
memory_holds_program = holds_program (linked_by_names names_are_defined) (intact_holds image_is_linked)

pub answers_are_kept : AnswersAreKept
answers_are_kept jmax asked told before after out out' log log' answer answered = answers memory_holds_program jmax asked told before after out out' log log' answer answered
