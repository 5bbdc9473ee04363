-- A call that found its answer and wrote it keeps the promise.
use Rattle.std.proofs.Common.{◌≡◌, ◌≢◌, ℕ, ◌⊎◌, inl, inr, List, [], map, Option, refl, sym, ◌∙◌, subst}
use Rattle.orc_ids.specs.declared.lookup.Outcome.{Outcome}
use Rattle.notifiers.specs.declared.notes.Noted.TheVariants.{Unfired}
use Rattle.object_files.specs.Files.{HasStopped}
use Rattle.object_files.specs.declared.error.LoadError.{LoadError}
use Rattle.object_files.specs.declared.error.LoadError.TheVariants as load
use Rattle.session_script.specs.declared.error.ScriptWhy.{ScriptWhy}
use Rattle.session_script.specs.declared.script.Script.{Script}
use Rattle.script_plan.specs.Asked.{asked_script}
use Rattle.script_model.proofs.Kept.{script_keeps_promises}
use Rattle.orc_io.specs.Causes.{Rose}
use Rattle.answers.specs.EndLine.{end_line_of}
use Rattle.answers.specs.Files.{IsOfContents, file_answer}
use Rattle.answers.specs.Reads.{HoldsOfFound}
use Rattle.answers.specs.Written.{HoldsAsBefore, HoldsWhole, IsFinished, IsWritten, whole, out_failed, log_failed}
use Rattle.answers.specs.declared.answer.Answer.{Answer}
use Rattle.answers.specs.declared.answer.Answer.TheVariants.{Done, ReadFault, FileFault, WriteFault, ScriptRefused, ObjectRefused, TooLong, JournalFull, NoMemory}
use Rattle.answers.proofs.Reading.{finished_found}
use Rattle.answers.proofs.Sinks.{kept_as, quiet_unless}
use Rattle.session_command.specs.Clauses.{Call, Finds, HasFailed, HasFault, HasReadFault, IsAsked, IsBefore, IsCut, IsOfSession, IsWanting, OfSession, SessionAnswers}
use Rattle.session_command.specs.Found.{wanting}
use Rattle.session_command.specs.Reads.{IsSourceEndFor, IsSourceReadFor}
use Rattle.session_command.specs.Laws.{SessionAnswersAreKept}
use Rattle.session_command.proofs.Causes.{Cause, Session, answer_of, cause_of, no_text, write_later}
use Rattle.script_model.specs.Promises.{KeepsPromises}
use Rattle.session_command.proofs.Objects.{asks_for_objects, loaded_have}
use Rattle.session_command.proofs.Determined.{loaded_found, refused_found, stopped_found}

module _ {N : Type 0} (heard : N → Option Outcome) (number : N → ℕ) (jmax : ℕ) (c : Call N) (f answer : Answer) (output : List ℕ) (is : Finds heard number jmax c f output) where
  abbrev Written : Type 0
  Written = IsWritten c.out_before c.out_after c.log_before c.log_after f output [] answer

  -- the answer was found, and both texts were written whole
  record Wholly : Type 0 where
    found : Finds heard number jmax c answer output
    out_holds : HoldsWhole c.out_before c.out_after output
    log_holds : HoldsWhole c.log_before c.log_after (end_line_of answer)

  wholly : Written → answer ≢ WriteFault → Wholly
  wholly (whole e ho hl) apart = record {
    found = subst (λ x. Finds heard number jmax c x output) (sym e) is;
    out_holds = ho;
    log_holds = subst (λ x. HoldsWhole c.log_before c.log_after (end_line_of x)) (sym e) hl;
  }
  wholly (out_failed e _ _ _) apart = absurd (apart e)
  wholly (log_failed e _ _ _) apart = absurd (apart e)

  caused : (a : Answer) → answer ≡ a → a ≢ WriteFault → Written → Cause heard number jmax c a output
  caused a e apart w = subst (λ x. Cause heard number jmax c x output) e (cause_of heard number jmax c answer output (wholly w (λ q. apart (sym e ∙ q))).found)

  file_only : Written → (e : LoadError) → IsOfContents e → answer ≡ file_answer e → (script : Script) × IsAsked c script × HasStopped c.told c.faults_before c.faults_after script.files e
  file_only w (load.Fault k) of e = absurd of
  file_only w (load.TooLong k) of e = caused (TooLong k) e (λ q. cc) w
  file_only w (load.Refused k why) of e = caused (ObjectRefused k why) e (λ q. cc) w
  file_only w load.NoMemory of e = absurd of

  of_session : Written → answer ≢ WriteFault → answer ≢ NoMemory → Session heard number jmax c answer output → OfSession heard number jmax c answer
  of_session w apart quiet s =
      let h = wholly w apart in
      record {
        script = s.script;
        asked = s.asked;
        names = s.names;
        history = s.history;
        stopped = s.stopped;
        ends = s.ends;
        session = s.session;
        promises = kept s;
        closures = (kept s).closures (asks_for_objects s.session.units (loaded_have c.told s.script.files s.names s.session.units s.session.loaded) s.script);
        answers = s.answers;
        written = (subst (λ text. HoldsWhole c.out_before c.out_after text) s.text h.out_holds).0;
        logged = h.log_holds.0;
        notes = s.notes quiet;
      }
    where
      kept : (s : Session heard number jmax c answer output) → KeepsPromises (asked_script s.session.units s.script) s.ends s.history
      kept s = script_keeps_promises jmax c.workers (asked_script s.session.units s.script) s.stopped s.ends s.history s.session.run

  session : Written → IsOfSession answer → OfSession heard number jmax c answer
  session w (inl e) = of_session w (λ q. cc) (λ q. cc) (subst (λ x. Session heard number jmax c x output) (sym e) (caused Done e (λ q. cc) w))
  session w (inr p) = let e = p.1 in of_session w (λ q. cc) (λ q. cc) (subst (λ x. Session heard number jmax c x output) (sym e) (caused (JournalFull p.0) e (λ q. cc) w))

  -- what is written where no session was run
  before_wholly : Written → IsBefore answer → Wholly
  before_wholly w b = wholly w (λ q. write_later (subst IsBefore q b))

  out_quiet : Written → IsBefore answer → HoldsAsBefore c.out_before c.out_after
  out_quiet w b = let h = before_wholly w b in subst (λ text. HoldsWhole c.out_before c.out_after text) (no_text heard number jmax c answer output h.found b).0 h.out_holds

  untold : Written → IsBefore answer → c.back ≡ map Unfired c.handed
  untold w b = (no_text heard number jmax c answer output (before_wholly w b).found b).1

  write_fault : Written → answer ≡ WriteFault → Rose c.out_before.faults c.out_after.faults ⊎ Rose c.log_before.faults c.log_after.faults
  write_fault (whole a _ _) e = absurd (subst (λ x. Cause heard number jmax c x output) (sym a ∙ e) (cause_of heard number jmax c f output is))
  write_fault (out_failed _ r _ _) e = inl r.0
  write_fault (log_failed _ r _ _) e = inr r.0

  cut : Written → answer ≡ WriteFault → IsCut heard number jmax c
  cut (whole a _ _) e = absurd (subst (λ x. Cause heard number jmax c x output) (sym a ∙ e) (cause_of heard number jmax c f output is))
  cut (out_failed _ r ho hl) e = record { found = f; output = output; is_found = is; sinks = inl (r, ho, hl) }
  cut (log_failed _ r ho hl) e = record { found = f; output = output; is_found = is; sinks = inr (r, ho, hl) }

  memory_wanting : Written → answer ≡ NoMemory → IsWanting heard number jmax c
  memory_wanting w e =
      let h = wholly w (λ q. cc) in
      record {
        output = output;
        is_found = subst (λ x. Finds heard number jmax c x output) e h.found;
        written = h.out_holds.0;
        logged = (subst (λ x. HoldsWhole c.log_before c.log_after (end_line_of x)) e h.log_holds).0;
      }

  in_form : Written → IsOfSession answer ⊎ IsBefore answer ⊎ HasFailed answer
  in_form (whole e _ _) = subst (λ x. IsOfSession x ⊎ IsBefore x ⊎ HasFailed x) (sym e) (answer_of heard number jmax c f output (cause_of heard number jmax c f output is))
  in_form (out_failed e _ _ _) = inr (inr (inl e))
  in_form (log_failed e _ _ _) = inr (inr (inl e))

  -- a found fact of the answer, or a fault
  told_as : (P : Answer → Type 0) → Written → P f ⊎ HasFault f → P answer ⊎ HasFault answer
  told_as P w p = kept_as (λ x. P x ⊎ HasFault x) c.out_before c.out_after c.log_before c.log_after f output [] answer w p (inr (inr (inr (inl refl))))

  script_told : Written → (line : ℕ) (why : ScriptWhy) → (f ≡ ScriptRefused line why) ⊎ HasReadFault f → (answer ≡ ScriptRefused line why) ⊎ HasReadFault answer
  script_told w line why p = kept_as (λ x. (x ≡ ScriptRefused line why) ⊎ HasReadFault x) c.out_before c.out_after c.log_before c.log_after f output [] answer w p (inr (inr (inl refl)))

  answers : HoldsOfFound (IsSourceReadFor c.source_before.faults c.source_after.faults) answer → HoldsOfFound (IsSourceEndFor c.source_after.bytes) answer → Written → SessionAnswers heard number jmax c answer
  answers source end w = record {
    answers = in_form w;
    read_fault = λ e. caused ReadFault e (λ q. cc) w;
    file_fault = λ k e. caused (FileFault k) e (λ q. cc) w;
    write_fault = write_fault w;
    source = source;
    source_end = end;
    script_only = λ line why e. caused (ScriptRefused line why) e (λ q. cc) w;
    script_told = λ bytes line why told bad. script_told w line why (refused_found heard number jmax c bytes told line why f output bad is);
    file_only = file_only w;
    file_told = λ bytes script e told asked contents files_told of stopped. told_as (λ x. x ≡ file_answer e) w (stopped_found heard number jmax c bytes told script asked contents files_told e f output of stopped is);
    session_told = λ bytes script names units told asked contents files_told loaded. told_as IsOfSession w (loaded_found heard number jmax c bytes told script asked contents files_told names units f output loaded is);
    session = session w;
    out_quiet = λ b. (out_quiet w b).0;
    log_line = λ b. (before_wholly w b).log_holds.0;
    untold = untold w;
    quiet = quiet_unless c.out_before c.out_after c.log_before c.log_after f output [] answer w;
    cut = cut w;
    wanting = memory_wanting w;
  }

pub session_answers_are_kept : {N : Type 0} → SessionAnswersAreKept N
session_answers_are_kept heard number jmax c found answer output is read left finished = by finished
  where
    source : HoldsOfFound (IsSourceReadFor c.source_before.faults c.source_after.faults) answer
    source = finished_found (IsSourceReadFor c.source_before.faults c.source_after.faults) c.out_before c.out_after c.log_before c.log_after found output [] answer finished read

    end : HoldsOfFound (IsSourceEndFor c.source_after.bytes) answer
    end = finished_found (IsSourceEndFor c.source_after.bytes) c.out_before c.out_after c.log_before c.log_after found output [] answer finished left

    by : IsFinished c.out_before c.out_after c.log_before c.log_after found output [] answer → SessionAnswers heard number jmax c answer
    by (inl w) = answers heard number jmax c found answer output is source end w
    by (inr w) = answers heard number jmax c NoMemory answer [] (wanting refl refl) source end w
