-- Each number of a canonical object's section table fits its field, where the file is short enough.
use Rattle.std.proofs.Common.{◌≡◌, ℕ, suc, ◌+◌, ◌^◌, ◌<◌, not, List, [], ◌∷◌, length, codes, refl, sym, ap, subst, ◌∙◌, arith}
use Rattle.std.proofs.lemmas.List.Filters.{length-filter_both}
use Rattle.elf_read.specs.declared.object.ElfObject.{ElfObject}
use Rattle.elf_read.specs.Symbols.{symbol_zero}
use Rattle.elf_write.specs.Bytes.{filled}
use Rattle.elf_write.specs.Parts.{Part, strings_part}
use Rattle.elf_write.specs.Tables.{is_local}
use Rattle.elf_write.specs.Files.{Written, nothing_written, with_part, with_parts, finished, symtab_number, parts_of, rela_count, file_bytes}
use Rattle.elf_write.specs.Canonical.{Canonical}
use Rattle.elf_write.proofs.Steps.{parts_together}
use Rattle.elf_read.specs.File.{file_of}
use Rattle.object_reading.specs.Places.{Holds, part, section_names, all_parts, PartsAreHeld}
use Rattle.object_reading.proofs.Entries.{HeaderFits}
use Rattle.object_reading.proofs.Head.{HeadIs}
use Rattle.object_reading.proofs.Written.{all_written, holds_parts, head_of_written, part_short}
use Rattle.object_reading.proofs.Relas.{sec, no_sec}
use Rattle.object_reading.proofs.Row.{PartsOf, parts_are}
use Rattle.object_reading.proofs.Parts.{Row, placed, rela, symbols, strings, last, row}
use Rattle.object_reading.proofs.Limits.{placed_small, small_power-lt}
use Rattle.object_reading.proofs.Tables.{not_empty, length-table}

-- ---- each part's header

fits_row : (o : ElfObject) (names : List ℕ) → Canonical o → (number : symtab_number o ≡ suc (length o.sections + rela_count o.sections)) → (k : ℕ) (p : Part) → Row o names k p → length p.bytes < 2 ^ 32 → HeaderFits p
fits_row o names c number k p (placed _ lt) small =
    let held = c.sections_in k no_sec lt in
    record {
      kind_in = placed_small (sec o.sections k).kind held.kind_in;
      flags_in = held.flags_in;
      size_in = held.size_in;
      link_in = omega arith;
      info_in = omega arith;
      align_in = small_power-lt (sec o.sections k).align held.aligned;
      entry_in = omega arith;
    }
fits_row o names c number k p (rela q lt e) small = record {
  kind_in = omega arith;
  flags_in = omega arith;
  size_in = omega arith;
  link_in = omega (arith, c.few_sections);
  info_in = omega (arith, c.few_sections, number);
  align_in = omega arith;
  entry_in = omega arith;
}
fits_row o names c number k p symbols small = record {
  kind_in = omega arith;
  flags_in = omega arith;
  size_in = omega arith;
  link_in = omega (arith, c.few_sections);
  info_in = omega (arith, small, length-table o.symbols, not_empty o.symbols symbol_zero c.first, length-filter_both is_local (λ s. not (is_local s)) (λ s. refl) o.symbols);
  align_in = omega arith;
  entry_in = omega arith;
}
fits_row o names c number k p strings small = record {
  kind_in = omega arith;
  flags_in = omega arith;
  size_in = omega arith;
  link_in = omega arith;
  info_in = omega arith;
  align_in = omega arith;
  entry_in = omega arith;
}
fits_row o names c number k p last small = record {
  kind_in = omega arith;
  flags_in = omega arith;
  size_in = omega arith;
  link_in = omega arith;
  info_in = omega arith;
  align_in = omega arith;
  entry_in = omega arith;
}

-- ---- the parts of an object's file

written_is : (o : ElfObject) → all_written (all_parts o) ≡ with_part (strings_part (codes ".shstrtab") (section_names o)) (with_parts (parts_of o) nothing_written)
unfolding all_parts
written_is o = parts_together (parts_of o) (strings_part (codes ".shstrtab") (section_names o) ∷ []) nothing_written

names_are : (o : ElfObject) → (all_written (all_parts o)).names ≡ section_names o
unfolding section_names
names_are o = ap (λ (w : Written). w.names) (written_is o)

pub parts_of_file : (o : ElfObject) → PartsOf o (all_parts o) (section_names o)
unfolding all_parts
parts_of_file o = parts_are o (section_names o)

length_is : (o : ElfObject) → symtab_number o + 2 ≡ length (all_parts o)
length_is o = let g = parts_of_file o in omega (arith, g.length_is, g.number_is)

file_is : (o : ElfObject) → file_bytes o ≡ finished (symtab_number o + 2) (with_part (strings_part (codes ".shstrtab") (section_names o)) (with_parts (parts_of o) nothing_written))
unfolding file_bytes section_names
file_is o = refl

pub bytes_are : (o : ElfObject) → file_bytes o ≡ finished (length (all_parts o)) (all_written (all_parts o))
bytes_are o = file_is o ∙ (λ i. finished (length_is o i) (sym (written_is o) i))

-- ---- the file holds them

module _ (o : ElfObject) (c : Canonical o) (small : length (file_bytes o) < 2 ^ 32) where
  part_small : (k : ℕ) → k < length (all_parts o) → length (part (all_parts o) k).bytes < 2 ^ 32
  part_small k lt = omega (arith, part_short (all_parts o) (length (all_parts o)) k lt, ap length (bytes_are o))

  names_small : length (all_written (all_parts o)).names < 2 ^ 32
  names_small =
      let g = parts_of_file o in
      let k : ℕ = length o.sections + rela_count o.sections + 2 in
      let is : (part (all_parts o) k).bytes ≡ section_names o = ap (λ (p : Part). p.bytes) g.names_at in
      omega (arith, part_small k (omega (arith, g.length_is)), ap length is, ap length (names_are o))

  pub head_is : HeadIs (file_bytes o) (64 + length (filled (all_written (all_parts o)).bytes)) (length (all_parts o))
  head_is = head_of_written (file_bytes o) (all_parts o) (bytes_are o) small (omega (arith, c.few_sections, length_is o))

  held : Holds (file_of (file_bytes o)) (all_parts o) (all_written (all_parts o)).names
  unfolding file_of
  held = holds_parts (file_of (file_bytes o)) (all_parts o) (bytes_are o) head_is.table_is (omega (arith, head_is.count_is)) head_is.names_are small names_small
      (λ k lt. fits_row o (section_names o) c (parts_of_file o).number_is k (part (all_parts o) k) (row o (all_parts o) (section_names o) (parts_of_file o) k lt) (part_small k lt))

pub parts_are_held : PartsAreHeld
parts_are_held o c small = subst (λ names. Holds (file_of (file_bytes o)) (all_parts o) names) (names_are o) (held o c small)
