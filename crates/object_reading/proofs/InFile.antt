-- The sections of an object's file: each is its part.
use Rattle.std.proofs.Common.{◌≡◌, ℕ, suc, ◌+◌, ◌/◌, ◌%◌, ◌^◌, ◌<◌, ◌≤◌, Bool, true, false, ◌==◌, List, length, codes, take, drop, refl, sym, ap, subst, ◌∙◌, arith}
use Rattle.std.specs.List.{filter}
use Rattle.std.proofs.lemmas.Bool.{and_from, and_left, eq-eqb}
use Rattle.orc_words.specs.Bits.{bits_at}
use Rattle.elf_read.specs.declared.object.ElfObject.{ElfObject}
use Rattle.elf_read.specs.File.{File, section, no_section, contents}
use Rattle.elf_read.specs.Sections.{is_kept, is_placed_kind}
use Rattle.elf_write.specs.Parts.{Part, section_part, rela_part, symtab_part, strings_part}
use Rattle.elf_write.specs.Tables.{symtab_of, is_local}
use Rattle.elf_write.specs.Files.{rela_count, symtab_number, is_filled}
use Rattle.elf_write.specs.Canonical.{Canonical, HoldsSection}
use Rattle.object_reading.specs.Places.{Holds, part}
use Rattle.object_reading.proofs.Standing.{stands_taken}
use Rattle.object_reading.proofs.Relas.{sec, no_sec, rank, rank_in, part_of_section}
use Rattle.object_reading.proofs.Row.{PartsOf}
use Rattle.object_reading.proofs.Parts.{Row, placed, rela, symbols, strings, last, row, IsPart, is_part}

-- the object's parts are those that the file holds
pub record InFile (o : ElfObject) (f : File) : Type 0 where
  pub parts : List Part
  pub names : List ℕ
  pub canonical : Canonical o
  pub holds : Holds f parts names
  pub parts_of : PartsOf o parts names
  pub small : length f.bytes < 2 ^ 32

pub section_zero : (f : File) → section f 0 ≡ no_section
unfolding section
section_zero f = refl

-- a test of a part's kind
pub kind_test : {f : File} {names : List ℕ} {i : ℕ} {p : Part} (q : IsPart f names i p) (x : ℕ) (b : Bool) → (p.header.kind == x) ≡ b → ((section f i).kind == x) ≡ b
kind_test q x b e = ap (λ (k : ℕ). k == x) q.header.kind_is ∙ e

pub contents_are : {f : File} {names : List ℕ} {i : ℕ} {p : Part} (q : IsPart f names i p) → p.header.size ≡ length p.bytes → contents f.bytes (section f i) ≡ p.bytes
contents_are {f} {names} {i} {p} q sized =
    let size = q.header.size_is ∙ sized in
    (λ j. take (size j) (drop (q.header.offset_is j) f.bytes)) ∙ stands_taken q.stands

module _ (o : ElfObject) (f : File) (w : InFile o f) where
  pub section_held : (k : ℕ) → k < length o.sections → HoldsSection (length o.symbols) (sec o.sections k)
  section_held k lt = w.canonical.sections_in k no_sec lt

  pub part_at : (k : ℕ) → k < length w.parts → IsPart f w.names (suc k) (part w.parts k)
  part_at k lt = is_part f w.parts w.names w.holds k lt

  pub row_of : (k : ℕ) → k < length w.parts → Row o w.names k (part w.parts k)
  row_of k lt = row o w.parts w.names w.parts_of k lt

  one_of : (k i : ℕ) (p : Part) → k < length w.parts → suc k ≡ i → part w.parts k ≡ p → IsPart f w.names i p
  one_of k i p lt e e' = subst (λ j. IsPart f w.names j p) e (subst (λ q. IsPart f w.names (suc k) q) e' (part_at k lt))

  -- ---- the parts by their number in the file

  pub placed_at : (k : ℕ) → k < length o.sections → IsPart f w.names (suc k) (section_part (sec o.sections k))
  placed_at k lt = one_of k (suc k) (section_part (sec o.sections k)) (omega (arith, w.parts_of.length_is)) refl (w.parts_of.section_at k lt)

  pub rela_at : (q : ℕ) → q < length o.sections → is_filled (sec o.sections q).relocs ≡ true → IsPart f w.names (suc (length o.sections + rank o.sections q)) (rela_part (symtab_number o) (suc q) (sec o.sections q))
  rela_at q lt e =
      let below = rank_in o.sections q lt e in
      let number : 1 + q ≡ suc q = omega arith in
      one_of (length o.sections + rank o.sections q) (suc (length o.sections + rank o.sections q)) (rela_part (symtab_number o) (suc q) (sec o.sections q)) (omega (arith, w.parts_of.length_is, below)) refl
      (w.parts_of.rela_at (rank o.sections q) below ∙ part_of_section (symtab_number o) 1 o.sections q lt e ∙ ap (λ (i : ℕ). rela_part (symtab_number o) i (sec o.sections q)) number)

  pub symbols_at : IsPart f w.names (symtab_number o) (symtab_part (symtab_number o + 1) (length (filter is_local o.symbols)) (symtab_of o.symbols))
  symbols_at = one_of (length o.sections + rela_count o.sections) (symtab_number o) _ (omega (arith, w.parts_of.length_is)) (sym w.parts_of.number_is) w.parts_of.symtab_at

  pub strings_at : IsPart f w.names (symtab_number o + 1) (strings_part (codes ".strtab") (symtab_of o.symbols).strings)
  strings_at = one_of (length o.sections + rela_count o.sections + 1) (symtab_number o + 1) _ (omega (arith, w.parts_of.length_is)) (omega (arith, w.parts_of.number_is)) w.parts_of.strings_at

  pub names_at : IsPart f w.names f.names (strings_part (codes ".shstrtab") w.names)
  names_at = one_of (length o.sections + rela_count o.sections + 2) f.names _ (omega (arith, w.parts_of.length_is)) (omega (arith, w.parts_of.length_is, w.holds.names_are)) w.parts_of.names_at

  pub count_is : f.count ≡ symtab_number o + 3
  count_is = omega (arith, w.holds.count_is, w.parts_of.length_is, w.parts_of.number_is)

  -- ---- which sections are kept

  pub kept_placed : (k : ℕ) → k < length o.sections → is_kept (section f (suc k)) ≡ true
  unfolding is_kept bits_at
  kept_placed k lt =
      let q = placed_at k lt in
      let s = section_held k lt in
      and_from ((section f (suc k)).flags / 2 ^ 1 % 2 == 1) (is_placed_kind (section f (suc k)).kind)
      (ap (λ (x : ℕ). x / 2 ^ 1 % 2 == 1) q.header.flags_are ∙ eq-eqb ((sec o.sections k).flags / 2 ^ 1 % 2) 1 s.allocated)
      (ap is_placed_kind q.header.kind_is ∙ s.kind_in)

  not_kept : {i : ℕ} {p : Part} → IsPart f w.names i p → (p.header.flags / 2 ^ 1 % 2 == 1) ≡ false → is_kept (section f i) ≡ false
  unfolding is_kept
  not_kept {i} q e = and_left ((section f i).flags / 2 ^ 1 % 2 == 1) (is_placed_kind (section f i).kind) (ap (λ (x : ℕ). x / 2 ^ 1 % 2 == 1) q.header.flags_are ∙ e)

  pub kept_zero : is_kept (section f 0) ≡ false
  unfolding is_kept
  kept_zero = rw (section_zero f) refl

  kept_row : (k : ℕ) (p : Part) → Row o w.names k p → IsPart f w.names (suc k) p → length o.sections ≤ k → is_kept (section f (suc k)) ≡ false
  kept_row k p (placed _ lt) q le = absurd (omega arith)
  kept_row k p (rela j lt e) q le = not_kept q refl
  kept_row k p symbols q le = not_kept q refl
  kept_row k p strings q le = not_kept q refl
  kept_row k p last q le = not_kept q refl

  pub kept_other : (k : ℕ) → length o.sections ≤ k → k < length w.parts → is_kept (section f (suc k)) ≡ false
  kept_other k le lt = kept_row k (part w.parts k) (row_of k lt) (part_at k lt) le
