-- The sections of an object's file, and their relocations: each is read as it was written.
use Rattle.std.proofs.Common.{◌≡◌, ℕ, suc, ◌+◌, ◌*◌, ◌<◌, true, false, ◌==◌, if◌then◌else◌, List, [], ◌∷◌, length, get_or, drop, map, Some, unwrap_or, refl, sym, ap, ◌∙◌, inl, inr, arith}
use Rattle.std.specs.List.{range_with_len}
use Rattle.std.proofs.lemmas.Bool.{cases_Bool}
use Rattle.std.proofs.lemmas.List.{nil_from_length, ext_get_or}
use Rattle.std.proofs.lemmas.List.FromFn.{fill_by_all, length-map-range_with_len, get_or-map-range_with_len}
use Rattle.elf_read.specs.declared.object.ElfObject.{ElfObject}
use Rattle.elf_read.specs.declared.object.Reloc.{Reloc}
use Rattle.elf_read.specs.File.{File, section, contents}
use Rattle.elf_read.specs.Gabi.{sht_nobits}
use Rattle.elf_read.specs.Sections.{text_in, section_name}
use Rattle.elf_read.specs.Symbols.{reloc, numbers, reloc_count, entries_in, relocs_in, kept_below}
use Rattle.elf_read.specs.Object.{section_in}
use Rattle.elf_write.specs.Files.{is_filled}
use Rattle.elf_write.specs.Canonical.{HoldsReloc}
use Rattle.object_reading.proofs.Standing.{stands_within, stands_moved}
use Rattle.object_reading.proofs.Entries.{RelocFits, reloc_entry-written}
use Rattle.object_reading.proofs.Texts.{ended_text}
use Rattle.object_reading.proofs.Tables.{no_reloc, length-relocs_bytes, reloc_there}
use Rattle.object_reading.proofs.Relas.{sec, no_sec, rank}
use Rattle.object_reading.proofs.Limits.{small_power-positive}
use Rattle.object_reading.proofs.InFile.{InFile, section_held, kind_test, contents_are, placed_at, rela_at, names_at}
use Rattle.object_reading.proofs.Found.{rela_is, rela_none, kept_all}
use Rattle.object_reading.proofs.SymbolTable.{few_symbols}

not_filled : (rs : List Reloc) → is_filled rs ≡ false → rs ≡ []
not_filled [] e = refl
not_filled (r ∷ rs) e = absurd cc

module _ (o : ElfObject) (f : File) (w : InFile o f) where
  names_are : contents f.bytes (section f f.names) ≡ w.names
  names_are = contents_are (names_at o f w) refl

  pub section_name_is : (k : ℕ) → k < length o.sections → section_name f (suc k) ≡ Some (sec o.sections k).name
  unfolding section_name
  section_name_is k lt =
      let q = placed_at o f w k lt in
      (λ i. text_in (drop (q.header.name_is i) (names_are i))) ∙ ended_text q.named (section_held o f w k lt).named

  -- ---- relocations

  module _ (k : ℕ) (lt : k < length o.sections) where
    reloc_fits : (i : ℕ) → i < length (sec o.sections k).relocs → RelocFits (get_or (sec o.sections k).relocs i no_reloc)
    reloc_fits i in_ =
        let held : HoldsReloc (length o.symbols) (get_or (sec o.sections k).relocs i no_reloc) = (section_held o f w k lt).relocs_in i no_reloc in_ in
        record {
          at_in = held.at_in;
          kind_in = held.kind_in;
          symbol_in = omega (arith, held.symbol_in, few_symbols o f w, w.small);
          addend_in = held.addend_in;
        }

    module _ (filled : is_filled (sec o.sections k).relocs ≡ true) where
      pub reloc_count_is : reloc_count (section f (suc (length o.sections + rank o.sections k))) ≡ length (sec o.sections k).relocs
      reloc_count_is = let size = (rela_at o f w k lt filled).header.size_is ∙ length-relocs_bytes (sec o.sections k).relocs in omega (arith, size)

      pub reloc_read : (i : ℕ) → i < length (sec o.sections k).relocs → reloc f (section f (suc (length o.sections + rank o.sections k))) i ≡ get_or (sec o.sections k).relocs i no_reloc
      unfolding reloc
      reloc_read i in_ =
          let q = rela_at o f w k lt filled in
          let r : ℕ = suc (length o.sections + rank o.sections k) in
          reloc_entry-written (get_or (sec o.sections k).relocs i no_reloc) (reloc_fits i in_)
          (stands_moved ((section f r).offset + 24 * i) (stands_within q.stands (reloc_there (sec o.sections k).relocs i in_)) (omega (arith, q.header.offset_is)))

      some_read : relocs_in f (suc k) ≡ (sec o.sections k).relocs
      unfolding relocs_in
      some_read =
          let r : ℕ = suc (length o.sections + rank o.sections k) in
          ap (entries_in f) (rela_is o f w k lt filled)
          ∙ ap (λ n. map (reloc f (section f r)) (numbers n)) reloc_count_is
          ∙ sym (fill_by_all (reloc f (section f r)) (sec o.sections k).relocs (length (sec o.sections k).relocs) no_reloc refl (λ i in_. sym (reloc_read i in_)))

    none_read : is_filled (sec o.sections k).relocs ≡ false → relocs_in f (suc k) ≡ (sec o.sections k).relocs
    unfolding relocs_in
    none_read e = ap (entries_in f) (rela_none o f w k e) ∙ sym (not_filled (sec o.sections k).relocs e)

    relocs_read : relocs_in f (suc k) ≡ (sec o.sections k).relocs
    relocs_read = elim (cases_Bool (is_filled (sec o.sections k).relocs)) [
      | inl filled ↦ some_read filled
      | inr empty ↦ none_read empty
    ]

    -- ---- a section

    bytes_read : (if (section f (suc k)).kind == sht_nobits then [] else contents f.bytes (section f (suc k))) ≡ (sec o.sections k).bytes
    bytes_read =
        let q = placed_at o f w k lt in
        let held = section_held o f w k lt in
        elim (cases_Bool ((sec o.sections k).kind == 8)) [
          | inl zeros ↦ (
              let none : length (sec o.sections k).bytes ≡ 0 = held.bytes_are ∙ ap (λ b. if b then 0 else (sec o.sections k).size) zeros in
              ap (λ b. if b then [] else contents f.bytes (section f (suc k))) (kind_test q 8 true zeros) ∙ sym (nil_from_length (sec o.sections k).bytes none))
          | inr bytes ↦ (
              let sized : (sec o.sections k).size ≡ length (sec o.sections k).bytes = sym (held.bytes_are ∙ ap (λ b. if b then 0 else (sec o.sections k).size) bytes) in
              ap (λ b. if b then [] else contents f.bytes (section f (suc k))) (kind_test q 8 false bytes) ∙ contents_are q sized)
        ]

    align_read : (if (section f (suc k)).align == 0 then 1 else (section f (suc k)).align) ≡ (sec o.sections k).align
    align_read =
        let a : ℕ = (sec o.sections k).align in
        ap (λ (n : ℕ). if n == 0 then 1 else n) (placed_at o f w k lt).header.align_is
        ∙ ap (λ b. if b then 1 else a) (small_power-positive a (section_held o f w k lt).aligned)

    section_read : section_in f (suc k) ≡ sec o.sections k
    unfolding section_in
    section_read =
        let h = (placed_at o f w k lt).header in
        let name = ap (λ n. unwrap_or n []) (section_name_is k lt) in
        λ i. record { name = name i; kind = h.kind_is i; flags = h.flags_are i; align = align_read i; size = h.size_is i; bytes = bytes_read i; relocs = relocs_read i }

  pub sections_read : map (section_in f) (kept_below f f.count) ≡ o.sections
  sections_read =
      ap (map (section_in f)) (kept_all o f w)
      ∙ ext_get_or no_sec (map (section_in f) (range_with_len 1 (length o.sections))) o.sections (length-map-range_with_len (section_in f) 1 (length o.sections))
      (λ k lt. each k (omega (arith, lt, length-map-range_with_len (section_in f) 1 (length o.sections))))
    where
      each : (k : ℕ) → k < length o.sections → get_or (map (section_in f) (range_with_len 1 (length o.sections))) k no_sec ≡ get_or o.sections k no_sec
      each k lt = get_or-map-range_with_len (section_in f) 1 (length o.sections) k (suc k) no_sec lt (omega arith) ∙ section_read k lt
