-- The objects are canonical.
use Rattle.std.proofs.Common.{◌≡◌, ℕ, ◌+◌, ◌<◌, ◌^◌, ◌⊎◌, inl, inr, false, List, [], ◌∷◌, length, refl, sym, subst, arith}
use Rattle.std.specs.Prelude.{if◌then◌else◌}
use Rattle.std.specs.List.{All, IsDistinct}
use Rattle.std.specs.Str.{bytes_eq}
use Rattle.std.proofs.lemmas.Bool.{cases_eq, eq-eqb, ne_eqb}
use Rattle.std.proofs.lemmas.List.Elements.{All-cons, All-nil}
use Rattle.orc_words.specs.Bits.{bits_at}
use Rattle.elf_read.specs.Sections.{is_small_power}
use Rattle.elf_read.specs.declared.object.ElfObject.{ElfObject}
use Rattle.elf_write.specs.Bytes.{number_bytes}
use Rattle.elf_write.specs.Canonical.{Canonical, HoldsReloc, HoldsSection, HoldsSymbol}
use Rattle.elf_write.specs.Files.{symtab_number}
use Rattle.generated_objects.specs.Laws.{AreCanonical}
use Rattle.generated_objects.specs.Objects.{call_of, code, defined, function_name, linked_object, lone_object, object_calling, text_section, undefined}
use Rattle.generated_objects.specs.Rings.{next}
use Rattle.generated_objects.proofs.NamesApart.{name_good, name_short, name_text, names_apart}
use Rattle.generated_objects.proofs.Nexts.{next_below}

pub code_length : (k : ℕ) → length (code k) ≡ 24
unfolding number_bytes
code_length k = refl

reloc_holds : (symbols symbol : ℕ) → symbol < symbols → HoldsReloc symbols (call_of symbol)
reloc_holds symbols symbol there = record { at_in = omega arith; kind_in = omega arith; symbol_in = there; addend_in = refl }

section_holds : (symbols symbol k : ℕ) → symbol < symbols → HoldsSection symbols (text_section symbol k)
unfolding bits_at is_small_power
section_holds symbols symbol k there = record {
  named = refl;
  kind_in = refl;
  flags_in = omega arith;
  allocated = refl;
  no_tls = refl;
  not_compressed = refl;
  aligned = refl;
  size_in = omega arith;
  bytes_are = code_length k;
  relocs_in = All-cons (HoldsReloc symbols) (call_of symbol) [] (reloc_holds symbols symbol there) (All-nil (HoldsReloc symbols));
}

sections_hold : (symbols symbol k : ℕ) → symbol < symbols → All (HoldsSection symbols) (text_section symbol k ∷ [])
sections_hold symbols symbol k there = All-cons (HoldsSection symbols) (text_section symbol k) [] (section_holds symbols symbol k there) (All-nil (HoldsSection symbols))

defined_holds : (symbol k : ℕ) → k < 2 ^ 64 → HoldsSymbol (text_section symbol k ∷ []) (defined k)
defined_holds symbol k fits = record {
  named = name_text k fits;
  short = name_short k fits;
  bind_in = omega arith;
  kind_in = omega arith;
  vis_in = omega arith;
  value_in = omega arith;
  size_in = omega arith;
  lies = (omega arith, omega arith, (λ e. omega (arith, e)), (λ e. omega (arith, e)));
  visible = λ global. name_good k fits;
}

undefined_holds : (symbol k callee : ℕ) → callee < 2 ^ 64 → HoldsSymbol (text_section symbol k ∷ []) (undefined callee)
undefined_holds symbol k callee fits = record {
  named = name_text callee fits;
  short = name_short callee fits;
  bind_in = omega arith;
  kind_in = omega arith;
  vis_in = omega arith;
  value_in = omega arith;
  size_in = omega arith;
  lies = λ e. omega (arith, e);
  visible = λ global. name_good callee fits;
}

one_distinct : (a : List ℕ) → IsDistinct bytes_eq (a ∷ [])
unfolding IsDistinct
one_distinct a = (tt, tt)

two_distinct : (a b : List ℕ) → bytes_eq a b ≡ false → IsDistinct bytes_eq (a ∷ b ∷ [])
unfolding IsDistinct
two_distinct a b apart = ((apart, tt), (tt, tt))

few : (o : ElfObject) → symtab_number o ≡ 3 → symtab_number o + 2 < 0xffff
few o e = omega (arith, e)

lone_canonical : (k : ℕ) → k < 2 ^ 64 → Canonical (lone_object k)
unfolding symtab_number
lone_canonical k fits = let P = HoldsSymbol (text_section 1 k ∷ []) in record {
  sections_in = sections_hold 2 1 k (omega arith);
  first = refl;
  symbols_in = All-cons P (defined k) [] (defined_holds 1 k fits) (All-nil P);
  locals_first = refl;
  distinct = one_distinct (function_name k);
  few_sections = few (lone_object k) refl;
}

linked_canonical : (callee k : ℕ) → callee < 2 ^ 64 → k < 2 ^ 64 → (callee ≡ k → ⊥) → Canonical (linked_object callee k)
unfolding symtab_number
linked_canonical callee k there fits apart = let P = HoldsSymbol (text_section 2 k ∷ []) in record {
  sections_in = sections_hold 3 2 k (omega arith);
  first = refl;
  symbols_in = All-cons P (defined k) (undefined callee ∷ []) (defined_holds 2 k fits) (All-cons P (undefined callee) [] (undefined_holds 2 k callee there) (All-nil P));
  locals_first = refl;
  distinct = two_distinct (function_name k) (function_name callee) (names_apart k callee fits there (λ e. apart (sym e)));
  few_sections = few (linked_object callee k) refl;
}

calling_canonical : (callee k : ℕ) → callee < 2 ^ 64 → k < 2 ^ 64 → Canonical (object_calling callee k)
calling_canonical callee k there fits = split (cases_eq callee k)
  where
    split : (callee ≡ k) ⊎ (callee ≡ k → ⊥) → Canonical (object_calling callee k)
    split (inl same) = subst (λ b. Canonical (if b then lone_object k else linked_object callee k)) (sym (eq-eqb callee k same)) (lone_canonical k fits)
    split (inr apart) = subst (λ b. Canonical (if b then lone_object k else linked_object callee k)) (sym (ne_eqb callee k apart)) (linked_canonical callee k there fits apart)

pub generated_canonical : AreCanonical
generated_canonical n k below fits = let lt = next_below n k below in calling_canonical (next n k) k (omega (arith, lt, fits)) (omega (arith, below, fits))
