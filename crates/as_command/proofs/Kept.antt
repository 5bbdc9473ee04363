-- A call that found its answer and wrote it keeps the promise.
use Rattle.std.proofs.Common.{◌≡◌, ◌≢◌, ℕ, ◌⊎◌, inl, inr, List, [], Ok, refl, sym, ◌∙◌, ap, subst}
use Rattle.elf_read.specs.declared.object.ElfObject.{ElfObject}
use Rattle.elf_write.specs.Files.{file_bytes}
use Rattle.rv_asm.specs.Objects.{Assembles}
use Rattle.orc_io.specs.Causes.{Rose}
use Rattle.answers.specs.EndLine.{end_line_of}
use Rattle.answers.specs.Written.{HoldsAsBefore, HoldsWhole, IsWritten, whole, out_failed, log_failed}
use Rattle.answers.specs.declared.answer.Answer.{Answer}
use Rattle.answers.specs.declared.answer.Answer.TheVariants.{AsmRefused, Done, FileFault, NoMemory, TooLong, WriteFault}
use Rattle.answers.proofs.Sinks.{kept_as, quiet_unless}
use Rattle.as_command.specs.Clauses.{AsAnswers, Call, Finds, HasFailed, HasFault, IsBefore, IsCut, IsWanting, OfObject, TellText}
use Rattle.as_command.specs.Found.{in_length, in_object, in_reading, in_text, wanting}
use Rattle.as_command.specs.Laws.{AsAnswersAreKept}
use Rattle.as_command.proofs.Causes.{Cause, answer_of, cause_of, no_text, write_later}
use Rattle.as_command.proofs.Determined.{long_found, missing_found, object_found, object_is, refused_found}

module _ (c : Call) (f answer : Answer) (output : List ℕ) (is : Finds c f output) where
  abbrev Written : Type 0
  Written = IsWritten c.out_before c.out_after c.log_before c.log_after f output [] answer

  -- the answer was found, and both texts were written whole
  record Wholly : Type 0 where
    found : Finds c answer output
    out_holds : HoldsWhole c.out_before c.out_after output
    log_holds : HoldsWhole c.log_before c.log_after (end_line_of answer)

  wholly : Written → answer ≢ WriteFault → Wholly
  wholly (whole e ho hl) apart = record {
    found = subst (λ x. Finds c x output) (sym e) is;
    out_holds = ho;
    log_holds = subst (λ x. HoldsWhole c.log_before c.log_after (end_line_of x)) (sym e) hl;
  }
  wholly (out_failed e _ _ _) apart = absurd (apart e)
  wholly (log_failed e _ _ _) apart = absurd (apart e)

  caused : (a : Answer) → answer ≡ a → a ≢ WriteFault → Written → Cause c a output
  caused a e apart w = subst (λ x. Cause c x output) e (cause_of c answer output (wholly w (λ q. apart (sym e ∙ q))).found)

  object : Written → answer ≡ Done → OfObject c
  object w e =
      let h = wholly w (λ q. cc) in
      record {
        output = output;
        has = caused Done e (λ q. cc) w;
        written = h.out_holds.0;
        logged = (subst (λ x. HoldsWhole c.log_before c.log_after (end_line_of x)) e h.log_holds).0;
      }

  -- what is written where no object was made
  before_wholly : Written → IsBefore answer → Wholly
  before_wholly w b = wholly w (λ q. write_later (subst IsBefore q b))

  out_quiet : Written → IsBefore answer → HoldsAsBefore c.out_before c.out_after
  out_quiet w b = let h = before_wholly w b in subst (λ text. HoldsWhole c.out_before c.out_after text) (no_text c answer output h.found b) h.out_holds

  write_fault : Written → answer ≡ WriteFault → Rose c.out_before.faults c.out_after.faults ⊎ Rose c.log_before.faults c.log_after.faults
  write_fault (whole a _ _) e = absurd (subst (λ x. Cause c x output) (sym a ∙ e) (cause_of c f output is))
  write_fault (out_failed _ r _ _) e = inl r.0
  write_fault (log_failed _ r _ _) e = inr r.0

  cut : Written → answer ≡ WriteFault → IsCut c
  cut (whole a _ _) e = absurd (subst (λ x. Cause c x output) (sym a ∙ e) (cause_of c f output is))
  cut (out_failed _ r ho hl) e = record { found = f; output = output; is_found = is; sinks = inl (r, ho, hl) }
  cut (log_failed _ r ho hl) e = record { found = f; output = output; is_found = is; sinks = inr (r, ho, hl) }

  -- where memory ran out, nothing was to be written on out
  quiet : (a : Answer) → a ≡ NoMemory → Finds c a output → output ≡ []
  quiet a e (in_reading _ _ o) = o
  quiet a e (in_length _ _ o) = o
  quiet a e (in_text _ _ _ _ o) = o
  quiet a e (in_object has done) = absurd (let bad : Done ≡ NoMemory = sym done ∙ e in cc)
  quiet a e (wanting _ o) = o

  memory_wanting : Written → answer ≡ NoMemory → IsWanting c
  memory_wanting w e =
      let h = wholly w (λ q. cc) in
      record {
        out_same = (subst (λ text. HoldsWhole c.out_before c.out_after text) (quiet answer e h.found) h.out_holds).0;
        logged = (subst (λ x. HoldsWhole c.log_before c.log_after (end_line_of x)) e h.log_holds).0;
      }

  in_form : Written → (answer ≡ Done) ⊎ IsBefore answer ⊎ HasFailed answer
  in_form (whole e _ _) = subst (λ x. (x ≡ Done) ⊎ IsBefore x ⊎ HasFailed x) (sym e) (answer_of c f output (cause_of c f output is))
  in_form (out_failed e _ _ _) = inr (inr (inl e))
  in_form (log_failed e _ _ _) = inr (inr (inl e))

  -- a found fact of the answer, or a fault
  told_as : (P : Answer → Type 0) → Written → P f ⊎ HasFault f → P answer ⊎ HasFault answer
  told_as P w p = kept_as (λ x. P x ⊎ HasFault x) c.out_before c.out_after c.log_before c.log_after f output [] answer w p (inr (inr (inl refl)))

  written_told : Written → (text : List ℕ) (object : ElfObject) → TellText c text → Assembles text (Ok object) → answer ≡ Done → HoldsWhole c.out_before c.out_after (file_bytes object)
  written_told w text object told means e =
      let has = caused Done e (λ q. cc) w in
      let same = object_is c told.0 told.1 text told.2 object output has means in
      subst (λ text. HoldsWhole c.out_before c.out_after text) (has.made.bytes ∙ ap file_bytes same) (wholly w (λ q. cc)).out_holds

  answers : Written → AsAnswers c answer
  answers w = record {
    answers = in_form w;
    file_fault = λ e. (caused (FileFault 0) e (λ q. cc) w).1;
    write_fault = write_fault w;
    missing_told = λ told missing. kept_as HasFault c.out_before c.out_after c.log_before c.log_after f output [] answer w (missing_found c told.0 told.1 f output missing is) (inr (inl refl));
    long_only = λ e. (caused (TooLong 0) e (λ q. cc) w).1;
    long_told = λ told long. told_as (λ x. x ≡ TooLong 0) w (long_found c told.0 told.1 f output long is);
    refused_only = λ line why e. caused (AsmRefused line why) e (λ q. cc) w;
    refused_told = λ text line why told bad. told_as (λ x. x ≡ AsmRefused line why) w (refused_found c told.0 told.1 text told.2 line why f output bad is);
    object_told = λ text object told means. told_as (λ x. x ≡ Done) w (object_found c told.0 told.1 text told.2 object f output means is);
    object = object w;
    written_told = λ text object told means e. (written_told w text object told means e).0;
    out_quiet = λ b. (out_quiet w b).0;
    log_line = λ b. (before_wholly w b).log_holds.0;
    quiet = quiet_unless c.out_before c.out_after c.log_before c.log_after f output [] answer w;
    cut = cut w;
    wanting = memory_wanting w;
  }

pub as_answers_are_kept : AsAnswersAreKept
as_answers_are_kept c found answer output is (inl w) = answers c found answer output is w
as_answers_are_kept c found answer output is (inr w) = answers c NoMemory answer [] (wanting refl refl) w
