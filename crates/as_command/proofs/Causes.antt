-- What each answer is found for.
use Rattle.std.proofs.Common.{◌≡◌, ℕ, ◌⊎◌, inl, inr, List, [], refl, sym, subst}
use Rattle.std.specs.Bool.{⊤}
use Rattle.orc_io.specs.Causes.{Rose}
use Rattle.orc_io.specs.Contents.{IsLongerThan}
use Rattle.orc_io.specs.declared.limits.TheConstants.{FILE_LIMIT}
use Rattle.answers.specs.declared.answer.Answer.{Answer}
use Rattle.answers.specs.declared.answer.Answer.TheVariants.{AsmRefused, Done, FileFault, NoMemory, TooLong, WriteFault}
use Rattle.as_command.specs.Clauses.{Call, Finds, HasFailed, IsBefore}
use Rattle.as_command.specs.Found.{HasObject, IsRefusedIn, in_length, in_object, in_reading, in_text, wanting}

pub write_later : {P : Type 0} → IsBefore WriteFault → P
write_later b = absurd b

module _ (c : Call) where
  -- what each answer is found for; the others are never found
  abbrev pub Cause : Answer → List ℕ → Type 0
  Cause Done output = HasObject c.told c.file output
  Cause (FileFault k) output = (k ≡ 0) × Rose c.faults_before c.faults_after
  Cause (TooLong k) output = (k ≡ 0) × IsLongerThan FILE_LIMIT c.told c.file
  Cause (AsmRefused line why) output = IsRefusedIn c.told c.file line why
  Cause NoMemory output = ⊤
  Cause _ output = ⊥

  pub cause_of : (f : Answer) (output : List ℕ) → Finds c f output → Cause f output
  cause_of f output (in_reading rose e o) = subst (λ x. Cause x output) (sym e) (refl, rose)
  cause_of f output (in_length long e o) = subst (λ x. Cause x output) (sym e) (refl, long)
  cause_of f output (in_text line why refused e o) = subst (λ x. Cause x output) (sym e) refused
  cause_of f output (in_object has e) = subst (λ x. Cause x output) (sym e) has
  cause_of f output (wanting e o) = subst (λ x. Cause x output) (sym e) tt

  -- so it is one of these
  pub answer_of : (f : Answer) (output : List ℕ) → Cause f output → (f ≡ Done) ⊎ IsBefore f ⊎ HasFailed f
  answer_of Done output cause = inl refl
  answer_of (FileFault k) output cause = inr (inl cause.0)
  answer_of (TooLong k) output cause = inr (inl cause.0)
  answer_of (AsmRefused line why) output cause = inr (inl tt)
  answer_of NoMemory output cause = inr (inr (inr refl))
  answer_of _ output cause = absurd cause

  -- where no object was made, there is no text
  pub no_text : (f : Answer) (output : List ℕ) → Finds c f output → IsBefore f → output ≡ []
  no_text f output (in_reading rose e o) before = o
  no_text f output (in_length long e o) before = o
  no_text f output (in_text line why refused e o) before = o
  no_text f output (in_object has e) before = absurd (subst IsBefore e before)
  no_text f output (wanting e o) before = o
