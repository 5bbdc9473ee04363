-- What a reader finds in an object's file: the symbol table, and the relocations of each section.
use Rattle.std.proofs.Common.{◌≡◌, ℕ, zero, suc, ◌+◌, ◌<◌, ◌≤◌, true, false, ◌&&◌, ◌==◌, [], ◌∷◌, ◌++◌, length, Some, None, unwrap_or, cond, refl, sym, ap, ◌∙◌, arith}
use Rattle.std.specs.List.{range_with_len}
use Rattle.std.proofs.lemmas.Bool.{and_parts, and_from, eqb-true, eq-eqb, both_ways, false≢true, false_from_ne_true}
use Rattle.std.proofs.lemmas.List.{map-id, append-nil}
use Rattle.std.proofs.lemmas.List.FromFn.{map-range_with_len_more}
use Rattle.elf_read.specs.declared.object.ElfObject.{ElfObject}
use Rattle.elf_read.specs.File.{File, section}
use Rattle.elf_read.specs.Gabi.{sht_symtab, sht_rela}
use Rattle.elf_read.specs.Sections.{symtab_of, symtab, rela_of}
use Rattle.elf_read.specs.Symbols.{kept_below}
use Rattle.elf_read.proofs.Tables.{kept_below-next}
use Rattle.elf_write.specs.Parts.{Part}
use Rattle.elf_write.specs.Files.{symtab_number, is_filled, rela_count}
use Rattle.object_reading.specs.Places.{part}
use Rattle.object_reading.proofs.Relas.{sec, rank, rank_in}
use Rattle.object_reading.proofs.Parts.{Row, placed, rela, symbols, strings, last, IsPart}
use Rattle.object_reading.proofs.Limits.{not_placed}
use Rattle.object_reading.proofs.Tests.{only_one, no_one}
use Rattle.object_reading.proofs.InFile.{InFile, section_zero, kind_test, section_held, part_at, row_of, rela_at, symbols_at, count_is, kept_placed, kept_zero, kept_other}

-- one more number of a range
range_more : (a n : ℕ) → range_with_len a (n + 1) ≡ range_with_len a n ++ (a + n) ∷ []
range_more a n = sym (map-id (range_with_len a (n + 1))) ∙ map-range_with_len_more (λ k. k) a n (a + n) refl ∙ ap (λ l. l ++ (a + n) ∷ []) (map-id (range_with_len a n))

module _ (o : ElfObject) (f : File) (w : InFile o f) where
  in_parts : (k : ℕ) → suc k < f.count → k < length w.parts
  in_parts k lt = omega (arith, w.holds.count_is)

  -- ---- the symbol table

  symtab_row : (k : ℕ) (p : Part) → Row o w.names k p → IsPart f w.names (suc k) p → ((section f (suc k)).kind == sht_symtab) ≡ true → suc k ≡ symtab_number o
  symtab_row k p (placed _ lt) q t = absurd (both_ways _ (kind_test q 2 false (not_placed (sec o.sections k).kind 2 (section_held o f w k lt).kind_in refl)) t)
  symtab_row k p (rela j lt e) q t = absurd (both_ways _ (kind_test q 2 false refl) t)
  symtab_row k p symbols q t = sym w.parts_of.number_is
  symtab_row k p strings q t = absurd (both_ways _ (kind_test q 2 false refl) t)
  symtab_row k p last q t = absurd (both_ways _ (kind_test q 2 false refl) t)

  symtab_only : (i : ℕ) → i < f.count → ((section f i).kind == sht_symtab) ≡ true → i ≡ symtab_number o
  symtab_only zero lt t = absurd (false≢true (rw (section_zero f) at t))
  symtab_only (suc k) lt t = symtab_row k (part w.parts k) (row_of o f w k (in_parts k lt)) (part_at o f w k (in_parts k lt)) t

  pub symtab_is : symtab_of f ≡ Some (symtab_number o)
  unfolding symtab_of
  symtab_is = only_one f.count (symtab_number o) (λ k. (section f k).kind == sht_symtab) (omega (arith, count_is o f w)) (kind_test (symbols_at o f w) 2 true refl) symtab_only

  pub symtab_section : symtab f ≡ section f (symtab_number o)
  unfolding symtab
  symtab_section = ap (λ r. section f (unwrap_or r 0)) symtab_is

  -- ---- relocations

  rela_row : (q k : ℕ) (p : Part) → Row o w.names k p → IsPart f w.names (suc k) p → ((section f (suc k)).kind == sht_rela && (section f (suc k)).info == suc q) ≡ true →
      (is_filled (sec o.sections q).relocs ≡ true) × (suc k ≡ suc (length o.sections + rank o.sections q))
  rela_row q k p (placed _ lt) part t = absurd (both_ways _ (kind_test part 4 false (not_placed (sec o.sections k).kind 4 (section_held o f w k lt).kind_in refl)) (and_parts _ _ t).0)
  rela_row q k p (rela j lt e) part t =
      let info : suc j ≡ suc q = sym part.header.info_is ∙ eqb-true (section f (suc k)).info (suc q) (and_parts ((section f (suc k)).kind == sht_rela) ((section f (suc k)).info == suc q) t).1 in
      let same : j ≡ q = omega arith in
      (ap (λ (i : ℕ). is_filled (sec o.sections i).relocs) (sym same) ∙ e, ap (λ (i : ℕ). suc (length o.sections + rank o.sections i)) same)
  rela_row q k p symbols part t = absurd (both_ways _ (kind_test part 4 false refl) (and_parts _ _ t).0)
  rela_row q k p strings part t = absurd (both_ways _ (kind_test part 4 false refl) (and_parts _ _ t).0)
  rela_row q k p last part t = absurd (both_ways _ (kind_test part 4 false refl) (and_parts _ _ t).0)

  rela_only : (q i : ℕ) → i < f.count → ((section f i).kind == sht_rela && (section f i).info == suc q) ≡ true → (is_filled (sec o.sections q).relocs ≡ true) × (i ≡ suc (length o.sections + rank o.sections q))
  rela_only q zero lt t = absurd (false≢true (rw (section_zero f) at t))
  rela_only q (suc k) lt t = rela_row q k (part w.parts k) (row_of o f w k (in_parts k lt)) (part_at o f w k (in_parts k lt)) t

  pub rela_is : (q : ℕ) → q < length o.sections → is_filled (sec o.sections q).relocs ≡ true → rela_of f (suc q) ≡ Some (suc (length o.sections + rank o.sections q))
  unfolding rela_of
  rela_is q lt e =
      let r : ℕ = suc (length o.sections + rank o.sections q) in
      let part = rela_at o f w q lt e in
      let below = rank_in o.sections q lt e in
      only_one f.count r (λ k. (section f k).kind == sht_rela && (section f k).info == suc q) (omega (arith, w.holds.count_is, w.parts_of.length_is, below))
      (and_from ((section f r).kind == sht_rela) ((section f r).info == suc q) (kind_test part 4 true refl) (eq-eqb (section f r).info (suc q) part.header.info_is))
      (λ i lt' t. (rela_only q i lt' t).1)

  pub rela_none : (q : ℕ) → is_filled (sec o.sections q).relocs ≡ false → rela_of f (suc q) ≡ None
  unfolding rela_of
  rela_none q e = no_one f.count (λ k. (section f k).kind == sht_rela && (section f k).info == suc q) (λ i lt. false_from_ne_true _ (λ t. both_ways (is_filled (sec o.sections q).relocs) e (rela_only q i lt t).0))

  -- ---- the kept sections below a number

  kept_first : kept_below f 1 ≡ []
  unfolding kept_below
  kept_first = rw (kept_zero o f w) refl

  pub kept_some : (k : ℕ) → k ≤ length o.sections → kept_below f (suc k) ≡ range_with_len 1 k
  kept_some zero le = kept_first
  kept_some (suc k) le =
      let one : suc k + 1 ≡ suc (suc k) = omega arith in
      let place : 1 + k ≡ suc k = omega arith in
      let more : k + 1 ≡ suc k = omega arith in
      ap (kept_below f) (sym one) ∙ kept_below-next f (suc k)
      ∙ (λ i. kept_some k (omega arith) i ++ cond (kept_placed o f w k (omega arith) i) (suc k ∷ []) [])
      ∙ ap (λ (x : ℕ). range_with_len 1 k ++ x ∷ []) (sym place) ∙ sym (range_more 1 k) ∙ ap (range_with_len 1) more

  kept_rest : (r : ℕ) → length o.sections + r ≤ length w.parts → kept_below f (suc (length o.sections + r)) ≡ range_with_len 1 (length o.sections)
  kept_rest zero le = (let e : length o.sections + 0 ≡ length o.sections = omega arith in ap (λ (x : ℕ). kept_below f (suc x)) e) ∙ kept_some (length o.sections) (omega arith)
  kept_rest (suc r) le =
      let n : ℕ = length o.sections in
      let one : suc (n + r) + 1 ≡ suc (n + suc r) = omega arith in
      ap (kept_below f) (sym one) ∙ kept_below-next f (suc (n + r))
      ∙ (λ i. kept_rest r (omega arith) i ++ cond (kept_other o f w (n + r) (omega arith) (omega arith) i) (suc (n + r) ∷ []) [])
      ∙ append-nil (range_with_len 1 n)

  pub kept_all : kept_below f f.count ≡ range_with_len 1 (length o.sections)
  kept_all =
      let n : ℕ = length o.sections in
      let e : f.count ≡ suc (n + (rela_count o.sections + 3)) = omega (arith, w.holds.count_is, w.parts_of.length_is) in
      ap (kept_below f) e ∙ kept_rest (rela_count o.sections + 3) (omega (arith, w.parts_of.length_is))
