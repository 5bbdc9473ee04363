-- The sections of an object one at a time, and the object of a text without a bad line.
use Rattle.std.proofs.Common.{◌≡◌, ℕ, zero, suc, ◌+◌, List, [], ◌∷◌, ◌++◌, length, Option, Some, None, get_or, ◌<◌, refl, sym, ◌∙◌, ap, inl, inr, ◌⊎◌, arith}
use Rattle.std.specs.Prelude.{slice_get, Result, IfOk}
use Rattle.std.proofs.lemmas.List.{get_or_read}
use Rattle.std.proofs.lemmas.Option.{get_or_from_slice_get}
use Rattle.elf_read.specs.declared.object.ElfObject.{ElfObject}
use Rattle.elf_read.specs.declared.object.Section.{Section}
use Rattle.asm_lines.specs.declared.statement.SectionKind.TheVariants.{Text}
use Rattle.asm_state.specs.Sections.{Made, fresh}
use Rattle.asm_state.specs.Symbols.{Symbols}
use Rattle.asm_text.specs.declared.reading.BadLine.{BadLine}
use Rattle.asm_text.specs.Known.{Known}
use Rattle.rv_asm.specs.Branches.{first_far_from, first_far_in}
use Rattle.rv_asm.specs.Objects.{IsObject, first_bad, bad_line, known}
use Rattle.rv_asm.specs.Sections.{AreSections, IsSection, name_at, made_at}
use Rattle.rv_asm.proofs.Words.{near_in}

get_push : {A : Type 0} (xs : List A) (x : A) (i : ℕ) (s : A) → slice_get (xs ++ x ∷ []) i ≡ Some s → (slice_get xs i ≡ Some s) ⊎ ((i ≡ length xs) × (s ≡ x))
get_push [] x zero s h = let same : x ≡ s = cc h in inr (refl, sym same)
get_push [] x (suc i) s h = absurd (cc h)
get_push (y ∷ xs) x zero s h = inl h
get_push (y ∷ xs) x (suc i) s h = elim (get_push xs x i s h) [
  | inl there ↦ inl there
  | inr last ↦ inr (ap suc last.0, last.1)
]

pub each_more : (k : Known) (xs new : List Section) (x : Section) (n : ℕ) → length xs ≡ n → new ≡ xs ++ x ∷ [] → ((i : ℕ) (s : Section) → slice_get xs i ≡ Some s → IsSection k.symbols i (name_at k i) (made_at k i) s) → IsSection k.symbols n (name_at k n) (made_at k n) x → (i : ℕ) (s : Section) → slice_get new i ≡ Some s → IsSection k.symbols i (name_at k i) (made_at k i) s
each_more k xs new x n long next so_far is i s there = elim (get_push xs x i s (ap (λ l. slice_get l i) (sym next) ∙ there)) [
  | inl before ↦ so_far i s before
  | inr last ↦ rw (last.1, last.0 ∙ long) is
]

pub are_sections : (k : Known) (items result : List Section) (n : ℕ) → result ≡ items → length items ≡ n → n ≡ length k.sections.made → ((i : ℕ) (s : Section) → slice_get items i ≡ Some s → IsSection k.symbols i (name_at k i) (made_at k i) s) → AreSections k result
are_sections k items result n is long all each = rw is (record { count = long ∙ all; each = each })

pub not_far : (k : Known) (bad : Option BadLine) → bad_line (k, bad) ≡ None → first_far_from k.symbols 0 k.sections.made ≡ None
unfolding bad_line
not_far k bad h = chosen (first_far_from k.symbols 0 k.sections.made) h where
  chosen : (o : Option ℕ) → first_bad o bad ≡ None → o ≡ None
  chosen None h = refl
  chosen (Some line) h = absurd (cc h)

pub found : (read : Known × Option BadLine) (k : Known) (bad : Option BadLine) (o : ElfObject) → read ≡ (k, bad) → bad_line (k, bad) ≡ None → IsObject k o → (bad_line read ≡ None) × IsObject (known read) o
unfolding known
found read k bad o is free object = rw is (free, object)

-- ---- one section, as it is read from the text

pub near_read : (s : Symbols) (made read : List Made) (section : ℕ) (m : Made) → first_far_from s 0 made ≡ None → read ≡ made → section < length read → m ≡ get_or read section m → first_far_in s section m.code ≡ None
near_read s made read section m near same lt is =
    let from_zero : section ≡ 0 + section = omega arith in
    ap (λ (x : Made). first_far_in s section x.code) (is ∙ ap (λ l. get_or l section m) same)
    ∙ ap (λ k. first_far_in s k (get_or made section m).code) from_zero
    ∙ near_in s 0 made section m near (omega (arith, lt, ap length same))

pub section_read : {E : Type 0} (k : Known) (read : List Made) (section : ℕ) (name : List ℕ) (m : Made) (result : Result Section E) → read ≡ k.sections.made → section < length read → m ≡ get_or read section m → slice_get k.sections.names section ≡ Some name → IfOk result (λ s. IsSection k.symbols section name m s) → IfOk result (λ s. IsSection k.symbols section (name_at k section) (made_at k section) s)
section_read k read section name m result same lt is named made =
    let its_name = get_or_from_slice_get k.sections.names section name [] named in
    let its_made = ap (λ l. get_or l section (fresh Text 4)) (sym same) ∙ sym (get_or_read read section m lt is (fresh Text 4)) in
    rw (its_name, its_made) made
