-- No check refuses a symbol or a relocation of an object's file.
use Rattle.std.proofs.Common.{◌≡◌, ℕ, zero, suc, ◌+◌, ◌^◌, ◌<◌, Bool, true, false, ◌&&◌, ◌||◌, not, ◌==◌, nat_lt, nat_le, length, get_or, drop, None, refl, sym, ap, ◌∙◌, inl, inr, get_or-drop, arith}
use Rattle.std.specs.Str.{bytes_eq}
use Rattle.std.proofs.lemmas.Bool.{and_left, and_right, and_parts, or_from, or_cases, ne_eqb, eq-eqb, eqb-true, leb-true, lt-leb, le-ltb, cases_Bool, cases_lt, both_ways}
use Rattle.elf_read.specs.declared.error.ElfError.TheVariants.{BadLink}
use Rattle.elf_read.specs.declared.object.ElfObject.{ElfObject}
use Rattle.elf_read.specs.declared.object.SymPlace.{SymPlace}
use Rattle.elf_read.specs.declared.object.SymPlace.TheVariants.{Undef, Abs, Common, In, Passed}
use Rattle.elf_read.specs.declared.object.Symbol.{Symbol}
use Rattle.elf_read.specs.File.{File, section}
use Rattle.elf_read.specs.Sections.{is_kept, is_small_power, rela_of}
use Rattle.elf_read.specs.Symbols.{entry, symbol_name, is_global, is_bad_name, is_taken, is_misplaced, own_refusal, symbol_refusal, is_no_symbol, reloc, reloc_count, entries_refusal, relocs_refusal, symbol_count}
use Rattle.elf_read.proofs.Ranges.{any_below-none}
use Rattle.elf_write.specs.Tables.{section_number, is_local}
use Rattle.elf_write.specs.Files.{is_filled}
use Rattle.elf_write.specs.Canonical.{Lies, HoldsReloc}
use Rattle.object_reading.proofs.Relas.{sec, rank}
use Rattle.object_reading.proofs.Tables.{sym_at, no_reloc}
use Rattle.elf_read.proofs.Tables.{when-false}
use Rattle.object_reading.proofs.InFile.{InFile, section_held, placed_at, kept_placed, kept_zero, kept_other}
use Rattle.object_reading.proofs.Found.{rela_is, rela_none}
use Rattle.object_reading.proofs.SymbolTable.{symbol_held, entry_is, name_found, symbol_name_is, count_symbols, symbol_count_is, few_symbols}
use Rattle.object_reading.proofs.ReadSections.{reloc_read, reloc_count_is}
use Rattle.object_reading.proofs.Distinct.{not_taken}

all_four : (a b c d : Bool) → a ≡ false → b ≡ false → c ≡ false → d ≡ false → (a || b || c || d) ≡ false
all_four a b c d ea eb ec ed = or_from _ _ (or_from _ _ (or_from _ _ ea eb) ec) ed

module _ (o : ElfObject) (f : File) (w : InFile o f) where
  -- ---- where a symbol lies

  -- the four tests of a place
  record Tests (s b v n : ℕ) : Type 0 where
    past : ((not (s == 0xfff1) && not (s == 0xfff2)) && nat_le f.count s) ≡ false
    outside : (((not (s == 0xfff1) && not (s == 0xfff2)) && is_kept (section f s)) && nat_lt (section f s).size v) ≡ false
    uneven : (s == 0xfff2 && (not (is_small_power v) || nat_lt (2 ^ 24) n)) ≡ false
    hidden : (b == 0 && (s == 0 || s == 0xfff2)) ≡ false

  lies_well : (b v n : ℕ) (p : SymPlace) → Lies o.sections b v n p → Tests (section_number p) b v n
  lies_well b v n Undef lies = record {
    past = lt-leb f.count 0 (omega (arith, w.holds.count_is));
    outside = and_left (is_kept (section f 0)) (nat_lt (section f 0).size v) (kept_zero o f w);
    uneven = refl;
    hidden = and_left _ _ (ne_eqb b 0 lies);
  }
  lies_well b v n Abs lies = record { past = refl; outside = refl; uneven = refl; hidden = and_right _ _ refl }
  lies_well b v n Common lies = record {
    past = refl;
    outside = refl;
    uneven = or_from _ _ (ap not lies.1) (le-ltb (2 ^ 24) n lies.2);
    hidden = and_left _ _ (ne_eqb b 0 lies.0);
  }
  lies_well b v n (In m) lies =
      let one : m + 1 ≡ suc m = omega arith in
      let held = (placed_at o f w m lies.0).header.size_is in
      let common : (m + 1 == 0xfff2) ≡ false = ne_eqb (m + 1) 0xfff2 lies.3 in
      let size : nat_lt (section f (m + 1)).size v ≡ false = ap (λ (i : ℕ). nat_lt (section f i).size v) one ∙ le-ltb (section f (suc m)).size v (omega (arith, held, lies.1)) in
      record {
        past = and_right _ _ (lt-leb f.count (m + 1) (omega (arith, lies.0, w.holds.count_is, w.parts_of.length_is)));
        outside = and_right _ _ size;
        uneven = and_left _ _ common;
        hidden = and_right _ _ (or_from _ _ (ne_eqb (m + 1) 0 (λ e. omega (arith, e))) common);
      }
  lies_well b v n Passed lies = absurd lies

  well_placed : (i s b v n : ℕ) → (entry f i).section ≡ s → (entry f i).bind ≡ b → (entry f i).value ≡ v → (entry f i).size ≡ n → Tests s b v n → is_misplaced f (entry f i) ≡ false
  unfolding is_misplaced
  well_placed i s b v n e1 e2 e3 e4 t = rw (e1, e2, e3, e4) (all_four _ _ _ _ t.past t.outside t.uneven t.hidden)

  not_xindex : (b v n : ℕ) (p : SymPlace) → Lies o.sections b v n p → (section_number p == 0xffff) ≡ false
  not_xindex b v n Undef lies = refl
  not_xindex b v n Abs lies = refl
  not_xindex b v n Common lies = refl
  not_xindex b v n (In m) lies = ne_eqb (m + 1) 0xffff (λ e. omega (arith, e, lies.0, w.canonical.few_sections, w.parts_of.number_is))
  not_xindex b v n Passed lies = absurd lies

  -- ---- a symbol by itself

  own_none : (j : ℕ) → j < length (drop 1 o.symbols) → own_refusal f (suc j) ≡ None
  unfolding own_refusal
  own_none j lt =
      let y : Symbol = sym_at (drop 1 o.symbols) j in
      let e = entry_is o f w j lt in
      let held = symbol_held o f w j lt in
      let bind : nat_lt 2 (entry f (suc j)).bind ≡ false = le-ltb 2 (entry f (suc j)).bind (omega (arith, e.bind_is, held.bind_in)) in
      let index : ((entry f (suc j)).section == 0xffff) ≡ false = ap (λ (s : ℕ). s == 0xffff) e.section_is ∙ not_xindex y.bind y.value y.size y.place held.lies in
      let placed = well_placed (suc j) (section_number y.place) y.bind y.value y.size e.section_is e.bind_is e.value_is e.size_is (lies_well y.bind y.value y.size y.place held.lies) in
      let named : (not ((entry f (suc j)).bind == 0) && is_bad_name (symbol_name f (suc j))) ≡ false =
      (λ i. not (e.bind_is i == 0) && is_bad_name (symbol_name_is o f w j lt i))
      ∙ elim (cases_Bool (y.bind == 0)) [
        | inl local ↦ and_left (not (y.bind == 0)) (is_bad_name y.name) (ap not local)
        | inr seen ↦ and_right (not (y.bind == 0)) (is_bad_name y.name) (held.visible (λ same. both_ways (y.bind == 0) seen (eq-eqb y.bind 0 same)))
      ] in
      rw (name_found o f w j lt, bind, index, placed, named) refl

  -- ---- a symbol among those before it

  later_is : (j : ℕ) → sym_at (drop 1 o.symbols) j ≡ sym_at o.symbols (suc j)
  later_is j = get_or-drop 1 o.symbols j _ ∙ (let place : 1 + j ≡ suc j = omega arith in ap (sym_at o.symbols) place)

  seen_is : (j : ℕ) → j < length (drop 1 o.symbols) → is_global f (suc j) ≡ true → not (is_local (sym_at o.symbols (suc j))) ≡ true
  unfolding is_global
  seen_is j lt t =
      let bind : (entry f (suc j)).bind ≡ (sym_at o.symbols (suc j)).bind = (entry_is o f w j lt).bind_is ∙ ap (λ (s : Symbol). s.bind) (later_is j) in
      ap (λ (b : ℕ). not (b == 0)) (sym bind) ∙ (and_parts (not (suc j == 0)) (not ((entry f (suc j)).bind == 0)) t).1

  zero_unseen : is_global f 0 ≡ false
  unfolding is_global
  zero_unseen = refl

  earlier : (j k : ℕ) → j < length (drop 1 o.symbols) → is_global f (suc j) ≡ true → k < suc j → (is_global f k && bytes_eq (symbol_name f (suc j)) (symbol_name f k)) ≡ true → ⊥
  earlier j zero lt seen before t = both_ways _ zero_unseen (and_parts _ _ t).0
  earlier j (suc k) lt seen before t =
      let parts = and_parts (is_global f (suc k)) (bytes_eq (symbol_name f (suc j)) (symbol_name f (suc k))) t in
      let lt' : k < length (drop 1 o.symbols) = omega arith in
      let name : (i : ℕ) → i < length (drop 1 o.symbols) → symbol_name f (suc i) ≡ (sym_at o.symbols (suc i)).name = λ i below. symbol_name_is o f w i below ∙ ap (λ (s : Symbol). s.name) (later_is i) in
      not_taken o.symbols (suc k) (suc j) w.canonical.distinct before (omega (arith, count_symbols o f w)) (seen_is k lt' parts.0) (seen_is j lt seen)
      ((λ i. bytes_eq (sym (name j lt) i) (sym (name k lt') i)) ∙ parts.1)

  not_named_before : (j : ℕ) → j < length (drop 1 o.symbols) → (is_global f (suc j) && is_taken f (suc j) (symbol_name f (suc j))) ≡ false
  unfolding is_taken
  not_named_before j lt = elim (cases_Bool (is_global f (suc j))) [
    | inl seen ↦ and_right _ _ (any_below-none (suc j) (λ k. is_global f k && bytes_eq (symbol_name f (suc j)) (symbol_name f k)) (λ k before t. earlier j k lt seen before t))
    | inr unseen ↦ and_left _ _ unseen
  ]

  pub symbols_none : (i : ℕ) → i < symbol_count f → symbol_refusal f i ≡ None
  unfolding symbol_refusal
  symbols_none zero lt = refl
  symbols_none (suc j) lt =
      let lt' : j < length (drop 1 o.symbols) = omega (arith, symbol_count_is o f w, count_symbols o f w) in
      rw (ne_eqb (suc j) 0 (λ e. omega (arith, e)), own_none j lt', not_named_before j lt') refl

  -- ---- relocations

  named_there : (k : ℕ) (lt : k < length o.sections) (filled : is_filled (sec o.sections k).relocs ≡ true) (i : ℕ) → i < reloc_count (section f (suc (length o.sections + rank o.sections k))) →
      is_no_symbol f (reloc f (section f (suc (length o.sections + rank o.sections k))) i).symbol ≡ true → ⊥
  named_there k lt filled i in_ t =
      let in_' : i < length (sec o.sections k).relocs = omega (arith, reloc_count_is o f w k lt filled) in
      let held : HoldsReloc (length o.symbols) (get_or (sec o.sections k).relocs i no_reloc) = (section_held o f w k lt).relocs_in i no_reloc in_' in
      let same : (reloc f (section f (suc (length o.sections + rank o.sections k))) i).symbol ≡ (get_or (sec o.sections k).relocs i no_reloc).symbol = ap (λ r. r.symbol) (reloc_read o f w k lt filled i in_') in
      elim (or_cases (nat_le (symbol_count f) (reloc f (section f (suc (length o.sections + rank o.sections k))) i).symbol) _ t) [
        | inl past ↦ omega (arith, leb-true _ _ past, same, held.symbol_in, symbol_count_is o f w)
        | inr last ↦ omega (arith, eqb-true _ _ last, same, held.symbol_in, few_symbols o f w, w.small)
      ]

  placed_relocs : (k : ℕ) → k < length o.sections → entries_refusal f (rela_of f (suc k)) ≡ None
  placed_relocs k lt = elim (cases_Bool (is_filled (sec o.sections k).relocs)) [
    | inl filled ↦ (
        let r : ℕ = suc (length o.sections + rank o.sections k) in
        ap (entries_refusal f) (rela_is o f w k lt filled)
        ∙ when-false _ (BadLink r) (any_below-none (reloc_count (section f r)) (λ i. is_no_symbol f (reloc f (section f r) i).symbol) (λ i in_ t. named_there k lt filled i in_ t)))
    | inr empty ↦ ap (entries_refusal f) (rela_none o f w k empty)
  ]

  pub relocs_none : (i : ℕ) → i < f.count → relocs_refusal f i ≡ None
  unfolding relocs_refusal
  relocs_none zero lt = rw (kept_zero o f w) refl
  relocs_none (suc k) lt = elim (cases_lt k (length o.sections)) [
    | inl first ↦ rw (kept_placed o f w k first) (placed_relocs k first)
    | inr after ↦ rw (kept_other o f w k after (omega (arith, w.holds.count_is))) refl
  ]
