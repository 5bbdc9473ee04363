-- A call that found its answer and wrote it keeps the promise.
use Rattle.std.proofs.Common.{◌≡◌, ℕ, ◌⊎◌, inl, inr, List, [], refl, sym, ◌∙◌, subst}
use Rattle.orc_io.specs.Causes.{Rose}
use Rattle.answers.specs.EndLine.{end_line_of}
use Rattle.answers.specs.Written.{HoldsWhole, IsWritten, whole, out_failed, log_failed}
use Rattle.answers.specs.declared.answer.Answer.{Answer}
use Rattle.answers.specs.declared.answer.Answer.TheVariants.{Done, NoMemory, WriteFault}
use Rattle.answers.proofs.Sinks.{quiet_unless}
use Rattle.gen_command.specs.Clauses.{Call, GenAnswers, IsCut, IsWanting, OfSummary}
use Rattle.gen_command.specs.Found.{IsFound, IsSummary, in_summary, wanting}
use Rattle.gen_command.specs.Laws.{GenAnswersAreKept}

-- ---- what each answer is found for

module _ (jmax n : ℕ) (f : Answer) (output : List ℕ) where
  found_answer : IsFound jmax n f output → (f ≡ Done) ⊎ (f ≡ NoMemory)
  found_answer (in_summary is e) = inl e
  found_answer (wanting e none) = inr e

  found_summary : f ≡ Done → IsFound jmax n f output → IsSummary jmax n output
  found_summary done (in_summary is e) = is
  found_summary done (wanting e none) = absurd (let bad : Done ≡ NoMemory = sym done ∙ e in cc)

  found_quiet : f ≡ NoMemory → IsFound jmax n f output → output ≡ []
  found_quiet none (in_summary is e) = absurd (let bad : Done ≡ NoMemory = sym e ∙ none in cc)
  found_quiet none (wanting e empty) = empty

  never_fault : {P : Type 0} → f ≡ WriteFault → IsFound jmax n f output → P
  never_fault fault (in_summary is e) = absurd (let bad : Done ≡ WriteFault = sym e ∙ fault in cc)
  never_fault fault (wanting e none) = absurd (let bad : NoMemory ≡ WriteFault = sym e ∙ fault in cc)

-- ---- what was written of it

module _ (jmax : ℕ) (c : Call) (f answer : Answer) (output : List ℕ) (is : IsFound jmax c.objects f output) where
  abbrev Written : Type 0
  Written = IsWritten c.out_before c.out_after c.log_before c.log_after f output [] answer

  -- this was found, and both texts were written whole
  record Wholly (a : Answer) : Type 0 where
    found : f ≡ a
    out_holds : HoldsWhole c.out_before c.out_after output
    log_holds : HoldsWhole c.log_before c.log_after (end_line_of a)

  wholly : (a : Answer) → answer ≡ a → (a ≡ WriteFault → ⊥) → Written → Wholly a
  wholly a e apart (whole same ho hl) =
      let found : f ≡ a = sym same ∙ e in
      record { found = found; out_holds = ho; log_holds = subst (λ x. HoldsWhole c.log_before c.log_after (end_line_of x)) found hl }
  wholly a e apart (out_failed fault _ _ _) = absurd (apart (sym e ∙ fault))
  wholly a e apart (log_failed fault _ _ _) = absurd (apart (sym e ∙ fault))

  in_form : Written → (answer ≡ Done) ⊎ (answer ≡ NoMemory) ⊎ (answer ≡ WriteFault)
  in_form (whole same _ _) = split (found_answer jmax c.objects f output is)
    where
      split : (f ≡ Done) ⊎ (f ≡ NoMemory) → (answer ≡ Done) ⊎ (answer ≡ NoMemory) ⊎ (answer ≡ WriteFault)
      split (inl e) = inl (same ∙ e)
      split (inr e) = inr (inl (same ∙ e))
  in_form (out_failed fault _ _ _) = inr (inr fault)
  in_form (log_failed fault _ _ _) = inr (inr fault)

  write_fault : Written → answer ≡ WriteFault → Rose c.out_before.faults c.out_after.faults ⊎ Rose c.log_before.faults c.log_after.faults
  write_fault (whole same _ _) e = never_fault jmax c.objects f output (sym same ∙ e) is
  write_fault (out_failed _ failed _ _) e = inl failed.0
  write_fault (log_failed _ failed _ _) e = inr failed.0

  summary : Written → answer ≡ Done → OfSummary jmax c
  summary w e =
      let h = wholly Done e (λ q. cc) w in
      record { output = output; is = found_summary jmax c.objects f output h.found is; written = h.out_holds.0; logged = h.log_holds.0 }

  cut : Written → answer ≡ WriteFault → IsCut jmax c
  cut (whole same _ _) e = never_fault jmax c.objects f output (sym same ∙ e) is
  cut (out_failed _ failed ho hl) e = record { found = f; output = output; is_found = is; sinks = inl (failed, ho, hl) }
  cut (log_failed _ failed ho hl) e = record { found = f; output = output; is_found = is; sinks = inr (failed, ho, hl) }

  memory_wanting : Written → answer ≡ NoMemory → IsWanting c
  memory_wanting w e =
      let h = wholly NoMemory e (λ q. cc) w in
      record {
        out_same = (subst (λ text. HoldsWhole c.out_before c.out_after text) (found_quiet jmax c.objects f output h.found is) h.out_holds).0;
        logged = h.log_holds.0;
      }

  answers : Written → GenAnswers jmax c answer
  answers w = record {
    answers = in_form w;
    write_fault = write_fault w;
    summary = summary w;
    quiet = quiet_unless c.out_before c.out_after c.log_before c.log_after f output [] answer w;
    cut = cut w;
    wanting = memory_wanting w;
  }

pub gen_answers_are_kept : GenAnswersAreKept
gen_answers_are_kept jmax c found answer output is (inl w) = answers jmax c found answer output is w
gen_answers_are_kept jmax c found answer output is (inr w) = answers jmax c NoMemory answer [] (wanting refl refl) w
