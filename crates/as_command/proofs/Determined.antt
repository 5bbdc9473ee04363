-- What the file holds determines what is found, where the files tell it and nothing fails.
use Rattle.std.proofs.Common.{◌≡◌, ℕ, ◌<◌, ◌⊎◌, inl, inr, List, length, Option, Some, None, Ok, Err, sym, ◌∙◌, ap, subst, arith}
use Rattle.std.specs.Option.{IsSomeAnd}
use Rattle.std.proofs.lemmas.Option.{same_Some}
use Rattle.orc_io.specs.Contents.{HasContent, IsLongerThan, IsMissing}
use Rattle.orc_io.specs.declared.limits.TheConstants.{FILE_LIMIT}
use Rattle.elf_read.specs.declared.object.ElfObject.{ElfObject}
use Rattle.asm_lines.specs.declared.statement.AsmWhy.{AsmWhy}
use Rattle.asm_text.specs.declared.reading.BadLine.{BadLine as Bad}
use Rattle.asm_text.specs.Texts.{reading}
use Rattle.rv_asm.specs.Objects.{Assembles, bad_line}
use Rattle.rv_asm.specs.declared.error.AsmError.TheVariants.{BadLine}
use Rattle.rv_asm.proofs.OneObject.{one_object}
use Rattle.answers.specs.declared.answer.Answer.{Answer}
use Rattle.answers.specs.declared.answer.Answer.TheVariants.{AsmRefused, Done, TooLong}
use Rattle.as_command.specs.Clauses.{Call, Finds, HasFault}
use Rattle.as_command.specs.Found.{HasObject, IsRefusedIn, IsTextOf, in_length, in_object, in_reading, in_text, wanting}

-- What a text is to the assembler

one_line : (text : List ℕ) (l m : ℕ) (v w : AsmWhy) → Assembles text (Err (BadLine l v)) → Assembles text (Err (BadLine m w)) → AsmRefused l v ≡ AsmRefused m w
one_line text l m v w p q =
    let same : record { line = l; why = v } ≡ record { line = m; why = w } = same_Some (record { line = l; why = v }) (record { line = m; why = w }) (sym p ∙ q) in
    ap (λ (b : Bad). AsmRefused b.line b.why) same

never_both : {P : Type 0} (text : List ℕ) (line : ℕ) (why : AsmWhy) (object : ElfObject) → Assembles text (Err (BadLine line why)) → Assembles text (Ok object) → P
never_both text line why object p q = absurd (both (bad_line (reading text)) (record { line = line; why = why }) p q.0)
  where
    both : (b : Option Bad) (bad : Bad) → b ≡ Some bad → b ≡ None → ⊥
    both b bad x y = absurd cc

module _ (c : Call) (contents : List ℕ → Option (List ℕ)) (told : c.told ≡ Some contents) where
  content_so : (text : List ℕ) → IsTextOf c.told c.file text → contents c.file ≡ Some text
  content_so text read = subst (λ x. HasContent x c.file text) told read.content

  long_so : IsLongerThan FILE_LIMIT c.told c.file → IsSomeAnd (contents c.file) (λ (bytes : List ℕ). FILE_LIMIT < length bytes)
  long_so long = subst (λ x. IsLongerThan FILE_LIMIT x c.file) told long

  missing_so : IsMissing c.told c.file → contents c.file ≡ None
  missing_so missing = subst (λ x. IsMissing x c.file) told missing

  never_long : {P : Type 0} (text : List ℕ) → IsTextOf c.told c.file text → IsLongerThan FILE_LIMIT c.told c.file → P
  never_long text read long =
      let longer : FILE_LIMIT < length text = subst (λ o. IsSomeAnd o (λ (bytes : List ℕ). FILE_LIMIT < length bytes)) (content_so text read) (long_so long) in
      let short = read.short in
      absurd (omega (arith, longer, short))

  never_missing : {P : Type 0} (text : List ℕ) → IsTextOf c.told c.file text → IsMissing c.told c.file → P
  never_missing text read missing = absurd (both (contents c.file) (content_so text read) (missing_so missing))
    where
      both : (o : Option (List ℕ)) → o ≡ Some text → o ≡ None → ⊥
      both o x y = absurd cc

  -- the file is too long
  pub long_found : (f : Answer) (output : List ℕ) → IsLongerThan FILE_LIMIT c.told c.file → Finds c f output → (f ≡ TooLong 0) ⊎ HasFault f
  long_found f output long (in_reading rose e o) = inr (inl e)
  long_found f output long (in_length is e o) = inl e
  long_found f output long (in_text line why refused e o) = never_long refused.text refused.read long
  long_found f output long (in_object has e) = never_long has.text has.read long
  long_found f output long (wanting e o) = inr (inr (inr e))

  -- there is no such file
  pub missing_found : (f : Answer) (output : List ℕ) → IsMissing c.told c.file → Finds c f output → HasFault f
  missing_found f output missing (in_reading rose e o) = inl e
  missing_found f output missing (in_length long e o) = absurd (subst (λ o. IsSomeAnd o (λ (bytes : List ℕ). FILE_LIMIT < length bytes)) (missing_so missing) (long_so long))
  missing_found f output missing (in_text line why refused e o) = never_missing refused.text refused.read missing
  missing_found f output missing (in_object has e) = never_missing has.text has.read missing
  missing_found f output missing (wanting e o) = inr (inr e)

  module _ (text : List ℕ) (read : IsTextOf c.told c.file text) where
    one_text : (other : List ℕ) → IsTextOf c.told c.file other → other ≡ text
    one_text other is = same_Some other text (sym (content_so other is) ∙ content_so text read)

    refused_so : (line : ℕ) (why : AsmWhy) → IsRefusedIn c.told c.file line why → Assembles text (Err (BadLine line why))
    refused_so line why refused = subst (λ t. Assembles t (Err (BadLine line why))) (one_text refused.text refused.read) refused.is

    object_so : (output : List ℕ) (has : HasObject c.told c.file output) → Assembles text (Ok has.made.object)
    object_so output has = subst (λ t. Assembles t (Ok has.made.object)) (one_text has.text has.read) has.made.is

    -- the text has a bad line
    pub refused_found : (line : ℕ) (why : AsmWhy) (f : Answer) (output : List ℕ) → Assembles text (Err (BadLine line why)) → Finds c f output → (f ≡ AsmRefused line why) ⊎ HasFault f
    refused_found line why f output bad (in_reading rose e o) = inr (inl e)
    refused_found line why f output bad (in_length long e o) = never_long text read long
    refused_found line why f output bad (in_text l w refused e o) = inl (e ∙ one_line text l line w why (refused_so l w refused) bad)
    refused_found line why f output bad (in_object has e) = never_both text line why has.made.object bad (object_so output has)
    refused_found line why f output bad (wanting e o) = inr (inr (inr e))

    -- it is an object
    pub object_found : (object : ElfObject) (f : Answer) (output : List ℕ) → Assembles text (Ok object) → Finds c f output → (f ≡ Done) ⊎ HasFault f
    object_found object f output is (in_reading rose e o) = inr (inl e)
    object_found object f output is (in_length long e o) = never_long text read long
    object_found object f output is (in_text l w refused e o) = never_both text l w object (refused_so l w refused) is
    object_found object f output is (in_object has e) = inl e
    object_found object f output is (wanting e o) = inr (inr (inr e))

    -- and that alone is the object
    pub object_is : (object : ElfObject) (output : List ℕ) (has : HasObject c.told c.file output) → Assembles text (Ok object) → has.made.object ≡ object
    object_is object output has is = one_object text has.made.object object (object_so output has) is
