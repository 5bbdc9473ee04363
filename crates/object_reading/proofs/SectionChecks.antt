-- No check refuses a section of an object's file.
use Rattle.std.proofs.Common.{◌≡◌, ℕ, zero, suc, ◌+◌, ◌/◌, ◌%◌, ◌^◌, ◌<◌, true, false, ◌&&◌, ◌||◌, not, ◌==◌, nat_le, if◌then◌else◌, List, length, None, refl, sym, ap, ◌∙◌, inl, inr, arith}
use Rattle.std.proofs.lemmas.Bool.{and_left, and_right, or_from, or_right, eq-eqb, eqb-true, ne_eqb, le-leb, lt-leb, cases_Bool, cases_lt, both_ways}
use Rattle.orc_words.specs.Bits.{bits_at}
use Rattle.elf_read.specs.declared.object.ElfObject.{ElfObject}
use Rattle.elf_read.specs.File.{File, section, lies_in}
use Rattle.elf_read.specs.Sections.{is_kept, is_placed_kind, is_small_power, kind_refusal, symtab_refusal, rela_refusal, kept_rela_refusal, section_refusal, name_refusal, is_used, symtab}
use Rattle.elf_write.specs.Parts.{Part}
use Rattle.elf_write.specs.Files.{symtab_number, is_filled}
use Rattle.object_reading.specs.Places.{part}
use Rattle.object_reading.proofs.Standing.{stands_in}
use Rattle.object_reading.proofs.Relas.{sec, rank}
use Rattle.object_reading.proofs.Tables.{length-relocs_bytes}
use Rattle.object_reading.proofs.Parts.{Row, placed, rela, symbols, strings, last, IsPart}
use Rattle.object_reading.proofs.Limits.{not_placed}
use Rattle.object_reading.proofs.InFile.{InFile, section_zero, section_held, kind_test, part_at, row_of, placed_at, symbols_at, strings_at, rela_at, kept_placed, kept_zero, kept_other}
use Rattle.object_reading.proofs.Found.{symtab_is, rela_is}
use Rattle.object_reading.proofs.SymbolTable.{count_symbols, length-symtab}
use Rattle.object_reading.proofs.ReadSections.{section_name_is}

-- ---- the checks of one section, one by one

kinds_none : (f : File) (i : ℕ) → ((section f i).kind == 17) ≡ false → ((section f i).kind == 9) ≡ false → ((section f i).flags / 2 ^ 1 % 2 == 1 && (section f i).flags / 2 ^ 10 % 2 == 1) ≡ false →
    ((section f i).flags / 2 ^ 1 % 2 == 1 && (section f i).flags / 2 ^ 11 % 2 == 1) ≡ false → ((section f i).flags / 2 ^ 1 % 2 == 1 && not (is_placed_kind (section f i).kind)) ≡ false → kind_refusal (section f i) ≡ None
unfolding kind_refusal
kinds_none f i e1 e2 e3 e4 e5 = rw (e1, e2, e3, e4, e5) refl

checks_none : (f : File) (i : ℕ) → kind_refusal (section f i) ≡ None → (is_kept (section f i) && not ((section f i).align == 0 || is_small_power (section f i).align)) ≡ false →
    (if (section f i).kind == 2 then symtab_refusal f i else None) ≡ None → (if (section f i).kind == 4 then rela_refusal f i else None) ≡ None →
    (is_used f i && not (lies_in f.bytes (section f i).offset (section f i).size)) ≡ false → section_refusal f i ≡ None
unfolding section_refusal
checks_none f i e1 e2 e3 e4 e5 = rw (e1, e2, e3, e4, e5) refl

-- a part that is as long as its header says lies in the file
lies : {f : File} {names : List ℕ} {i : ℕ} {p : Part} → IsPart f names i p → p.header.size ≡ length p.bytes → lies_in f.bytes (section f i).offset (section f i).size ≡ true
lies {f} {names} {i} q sized = le-leb ((section f i).offset + (section f i).size) (length f.bytes) (omega (arith, stands_in q.stands, q.header.offset_is, q.header.size_is, sized))

module _ (o : ElfObject) (f : File) (w : InFile o f) where
  -- ---- what is used

  zeros_not_used : (k : ℕ) → k < length o.sections → ((sec o.sections k).kind == 8) ≡ true → is_used f (suc k) ≡ false
  unfolding is_used
  zeros_not_used k lt zeros =
      let q = placed_at o f w k lt in
      let kind : (section f (suc k)).kind ≡ 8 = q.header.kind_is ∙ eqb-true (sec o.sections k).kind 8 zeros in
      let e1 : (is_kept (section f (suc k)) && not ((section f (suc k)).kind == 8)) ≡ false = and_right _ _ (ap (λ (n : ℕ). not (n == 8)) kind) in
      let e2 : ((section f (suc k)).kind == 2) ≡ false = ap (λ (n : ℕ). n == 2) kind in
      let e3 : (suc k == (symtab f).link && (section f (suc k)).kind == 3) ≡ false = and_right _ _ (ap (λ (n : ℕ). n == 3) kind) in
      let e4 : (suc k == f.names) ≡ false = ne_eqb (suc k) f.names (λ e. omega (arith, e, w.holds.names_are, w.parts_of.length_is)) in
      let e5 : ((section f (suc k)).kind == 4 && is_kept (section f (section f (suc k)).info)) ≡ false = and_left _ _ (ap (λ (n : ℕ). n == 4) kind) in
      or_from _ _ (or_from _ _ (or_from _ _ (or_from _ _ e1 e2) e3) e4) e5

  -- what is used is as long as its header says
  sized_row : (k : ℕ) (p : Part) → Row o w.names k p → is_used f (suc k) ≡ true → p.header.size ≡ length p.bytes
  sized_row k p (placed _ lt) used =
      let held = section_held o f w k lt in
      elim (cases_Bool ((sec o.sections k).kind == 8)) [
        | inl zeros ↦ absurd (both_ways (is_used f (suc k)) (zeros_not_used k lt zeros) used)
        | inr bytes ↦ sym (held.bytes_are ∙ ap (λ b. if b then 0 else (sec o.sections k).size) bytes)
      ]
  sized_row k p (rela j lt e) used = refl
  sized_row k p symbols used = refl
  sized_row k p strings used = refl
  sized_row k p last used = refl

  pub sized : (k : ℕ) → k < length w.parts → is_used f (suc k) ≡ true → (section f (suc k)).size ≡ length (part w.parts k).bytes
  sized k lt used = (part_at o f w k lt).header.size_is ∙ sized_row k (part w.parts k) (row_of o f w k lt) used

  used_lies : (k : ℕ) → k < length w.parts → (is_used f (suc k) && not (lies_in f.bytes (section f (suc k)).offset (section f (suc k)).size)) ≡ false
  used_lies k lt = elim (cases_Bool (is_used f (suc k))) [
    | inl used ↦ and_right _ _ (ap not (lies (part_at o f w k lt) (sized_row k (part w.parts k) (row_of o f w k lt) used)))
    | inr idle ↦ and_left _ _ idle
  ]

  -- ---- the symbol table, and relocations

  symtab_none : symtab_refusal f (symtab_number o) ≡ None
  unfolding symtab_refusal
  symtab_none =
      let q = symbols_at o f w in
      let size = q.header.size_is ∙ length-symtab o f w in
      let some : ((section f (symtab_number o)).size == 0) ≡ false = ne_eqb (section f (symtab_number o)).size 0 (λ e. omega (arith, e, size, count_symbols o f w)) in
      let whole : (section f (symtab_number o)).size % 24 ≡ 0 = omega (arith, size) in
      let kind = kind_test (strings_at o f w) 3 true refl in
      rw (symtab_is o f w, eq-eqb (symtab_number o) (symtab_number o) refl, q.header.entry_is, some, whole, q.header.link_is, kind) refl

  rela_checked : (q : ℕ) → q < length o.sections → is_filled (sec o.sections q).relocs ≡ true → kept_rela_refusal f (suc (length o.sections + rank o.sections q)) ≡ None
  unfolding kept_rela_refusal
  rela_checked q lt filled =
      let r : ℕ = suc (length o.sections + rank o.sections q) in
      let part = rela_at o f w q lt filled in
      let size = part.header.size_is ∙ length-relocs_bytes (sec o.sections q).relocs in
      let whole : (section f r).size % 24 ≡ 0 = omega (arith, size) in
      rw (part.header.info_is, rela_is o f w q lt filled, eq-eqb r r refl, part.header.link_is, symtab_is o f w, eq-eqb (symtab_number o) (symtab_number o) refl, part.header.entry_is, whole) refl

  rela_none : (q : ℕ) → q < length o.sections → is_filled (sec o.sections q).relocs ≡ true → rela_refusal f (suc (length o.sections + rank o.sections q)) ≡ None
  unfolding rela_refusal
  rela_none q lt filled =
      let part = rela_at o f w q lt filled in
      let few : nat_le f.count (suc q) ≡ false = lt-leb f.count (suc q) (omega (arith, w.holds.count_is, w.parts_of.length_is)) in
      rw (part.header.info_is, few, kept_placed o f w q lt, rela_checked q lt filled) refl

  -- ---- a section

  flag_off : (bit k : ℕ) → k < length o.sections → (sec o.sections k).flags / 2 ^ bit % 2 ≡ 0 → ((section f (suc k)).flags / 2 ^ bit % 2 == 1) ≡ false
  flag_off bit k lt off = ap (λ (n : ℕ). n / 2 ^ bit % 2 == 1) (placed_at o f w k lt).header.flags_are ∙ ap (λ (n : ℕ). n == 1) off

  placed_kinds : (k : ℕ) → k < length o.sections → kind_refusal (section f (suc k)) ≡ None
  unfolding bits_at
  placed_kinds k lt =
      let q = placed_at o f w k lt in
      let held = section_held o f w k lt in
      let kind : ℕ = (sec o.sections k).kind in
      kinds_none f (suc k) (kind_test q 17 false (not_placed kind 17 held.kind_in refl)) (kind_test q 9 false (not_placed kind 9 held.kind_in refl))
      (and_right _ _ (flag_off 10 k lt held.no_tls)) (and_right _ _ (flag_off 11 k lt held.not_compressed))
      (and_right _ _ (ap not (ap is_placed_kind q.header.kind_is ∙ held.kind_in)))

  placed_none : (k : ℕ) → k < length o.sections → k < length w.parts → section_refusal f (suc k) ≡ None
  placed_none k lt lt' =
      let q = placed_at o f w k lt in
      let held = section_held o f w k lt in
      let kind : ℕ = (sec o.sections k).kind in
      let small : is_small_power (section f (suc k)).align ≡ true = ap is_small_power q.header.align_is ∙ held.aligned in
      checks_none f (suc k) (placed_kinds k lt) (and_right _ _ (ap not (or_right _ _ small)))
      (ap (λ b. if b then symtab_refusal f (suc k) else None) (kind_test q 2 false (not_placed kind 2 held.kind_in refl)))
      (ap (λ b. if b then rela_refusal f (suc k) else None) (kind_test q 4 false (not_placed kind 4 held.kind_in refl)))
      (used_lies k lt')

  -- a part that isn't kept
  other_none : (k : ℕ) (p : Part) → IsPart f w.names (suc k) p → (p.header.flags / 2 ^ 1 % 2 == 1) ≡ false → (p.header.kind == 17) ≡ false → (p.header.kind == 9) ≡ false →
      is_kept (section f (suc k)) ≡ false → (if (section f (suc k)).kind == 2 then symtab_refusal f (suc k) else None) ≡ None → (if (section f (suc k)).kind == 4 then rela_refusal f (suc k) else None) ≡ None →
      k < length w.parts → section_refusal f (suc k) ≡ None
  other_none k p q off kind1 kind2 dropped e3 e4 lt =
      let idle : ((section f (suc k)).flags / 2 ^ 1 % 2 == 1) ≡ false = ap (λ (n : ℕ). n / 2 ^ 1 % 2 == 1) q.header.flags_are ∙ off in
      checks_none f (suc k) (kinds_none f (suc k) (kind_test q 17 false kind1) (kind_test q 9 false kind2) (and_left _ _ idle) (and_left _ _ idle) (and_left _ _ idle))
      (and_left _ _ dropped) e3 e4 (used_lies k lt)

  row_none : (k : ℕ) (p : Part) → Row o w.names k p → IsPart f w.names (suc k) p → k < length w.parts → section_refusal f (suc k) ≡ None
  row_none k p (placed _ lt) q lt' = placed_none k lt lt'
  row_none k p (rela j lt e) q lt' =
      other_none k p q refl refl refl (kept_other o f w k (omega arith) lt')
      (ap (λ b. if b then symtab_refusal f (suc k) else None) (kind_test q 2 false refl))
      (ap (λ b. if b then rela_refusal f (suc k) else None) (kind_test q 4 true refl) ∙ rela_none j lt e) lt'
  row_none k p symbols q lt' =
      other_none k p q refl refl refl (kept_other o f w k (omega arith) lt')
      (ap (λ b. if b then symtab_refusal f (suc k) else None) (kind_test q 2 true refl) ∙ ap (symtab_refusal f) (sym w.parts_of.number_is) ∙ symtab_none)
      (ap (λ b. if b then rela_refusal f (suc k) else None) (kind_test q 4 false refl)) lt'
  row_none k p strings q lt' =
      other_none k p q refl refl refl (kept_other o f w k (omega arith) lt')
      (ap (λ b. if b then symtab_refusal f (suc k) else None) (kind_test q 2 false refl))
      (ap (λ b. if b then rela_refusal f (suc k) else None) (kind_test q 4 false refl)) lt'
  row_none k p last q lt' =
      other_none k p q refl refl refl (kept_other o f w k (omega arith) lt')
      (ap (λ b. if b then symtab_refusal f (suc k) else None) (kind_test q 2 false refl))
      (ap (λ b. if b then rela_refusal f (suc k) else None) (kind_test q 4 false refl)) lt'

  -- entry 0 of the section table is no section
  zero_none : section_refusal f 0 ≡ None
  unfolding kind_refusal
  zero_none =
      let inside : lies_in f.bytes (section f 0).offset (section f 0).size ≡ true = rw (section_zero f) (le-leb 0 (length f.bytes) (omega arith)) in
      checks_none f 0 (rw (section_zero f) refl) (and_left _ _ (kept_zero o f w)) (rw (section_zero f) refl) (rw (section_zero f) refl) (and_right _ _ (ap not inside))

  pub sections_none : (i : ℕ) → i < f.count → section_refusal f i ≡ None
  sections_none zero lt = zero_none
  sections_none (suc k) lt =
      let lt' : k < length w.parts = omega (arith, w.holds.count_is) in
      row_none k (part w.parts k) (row_of o f w k lt') (part_at o f w k lt') lt'

  -- ---- names

  pub names_none : (i : ℕ) → i < f.count → name_refusal f i ≡ None
  unfolding name_refusal
  names_none zero lt = rw (kept_zero o f w) refl
  names_none (suc k) lt =
      elim (cases_lt k (length o.sections)) [
        | inl first ↦ rw (kept_placed o f w k first, section_name_is o f w k first) refl
        | inr after ↦ rw (kept_other o f w k after (omega (arith, w.holds.count_is))) refl
      ]
