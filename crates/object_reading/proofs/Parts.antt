-- What each part of an object's file is.
use Rattle.std.proofs.Common.{◌≡◌, ℕ, suc, ◌+◌, ◌-◌, ◌<◌, ◌≤◌, true, List, length, codes, refl, sym, ap, subst, ◌∙◌, inl, inr, arith}
use Rattle.std.specs.List.{filter}
use Rattle.std.proofs.lemmas.Bool.{cases_lt}
use Rattle.elf_read.specs.declared.object.ElfObject.{ElfObject}
use Rattle.elf_read.specs.File.{File}
use Rattle.elf_write.specs.Parts.{Part, section_part, rela_part, symtab_part, strings_part}
use Rattle.elf_write.specs.Tables.{symtab_of, is_local}
use Rattle.elf_write.specs.Files.{rela_count, symtab_number, is_filled}
use Rattle.object_reading.specs.Places.{Stands, Ended, Holds, SectionIs, part}
use Rattle.object_reading.proofs.Relas.{sec, rank, from_section}
use Rattle.object_reading.proofs.Row.{PartsOf}

-- part k is this part
pub data Row (o : ElfObject) (names : List ℕ) : ℕ → Part → Type 0 where
  placed : (k : ℕ) → k < length o.sections → Row o names k (section_part (sec o.sections k))
  rela : (q : ℕ) → q < length o.sections → is_filled (sec o.sections q).relocs ≡ true → Row o names (length o.sections + rank o.sections q) (rela_part (symtab_number o) (suc q) (sec o.sections q))
  symbols : Row o names (length o.sections + rela_count o.sections) (symtab_part (symtab_number o + 1) (length (filter is_local o.symbols)) (symtab_of o.symbols))
  strings : Row o names (length o.sections + rela_count o.sections + 1) (strings_part (codes ".strtab") (symtab_of o.symbols).strings)
  last : Row o names (length o.sections + rela_count o.sections + 2) (strings_part (codes ".shstrtab") names)

module _ (o : ElfObject) (ps : List Part) (names : List ℕ) (g : PartsOf o ps names) where
  row_at : (k j : ℕ) (p : Part) → Row o names j p → k ≡ j → part ps j ≡ p → Row o names k (part ps k)
  row_at k j p r e e' =
      let whole = ap (λ (i : ℕ). part ps i) e ∙ e' in
      subst (λ q. Row o names k q) (sym whole) (subst (λ (i : ℕ). Row o names i p) (sym e) r)

  row_rela : (j : ℕ) → j < rela_count o.sections → Row o names (length o.sections + j) (part ps (length o.sections + j))
  row_rela j lt =
      let from = from_section (symtab_number o) 1 o.sections j lt in
      let place : length o.sections + j ≡ length o.sections + rank o.sections from.at = ap (λ (i : ℕ). length o.sections + i) from.rank_is in
      let number : 1 + from.at ≡ suc from.at = omega arith in
      let is : part ps (length o.sections + j) ≡ rela_part (symtab_number o) (suc from.at) (sec o.sections from.at) =
      g.rela_at j lt ∙ from.is ∙ ap (λ (i : ℕ). rela_part (symtab_number o) i (sec o.sections from.at)) number in
      row_at (length o.sections + j) (length o.sections + rank o.sections from.at) (rela_part (symtab_number o) (suc from.at) (sec o.sections from.at)) (rela from.at from.below from.filled) place (ap (λ (i : ℕ). part ps i) (sym place) ∙ is)

  -- the three last parts
  row_late : (k : ℕ) → length o.sections + rela_count o.sections ≤ k → k < length ps → Row o names k (part ps k)
  row_late k le lt =
      elim (cases_lt k (length o.sections + rela_count o.sections + 1)) [
        | inl first ↦ row_at k (length o.sections + rela_count o.sections) _ symbols (omega arith) g.symtab_at
        | inr after ↦
            elim (cases_lt k (length o.sections + rela_count o.sections + 2)) [
              | inl second ↦ row_at k (length o.sections + rela_count o.sections + 1) _ strings (omega arith) g.strings_at
              | inr third ↦ row_at k (length o.sections + rela_count o.sections + 2) _ last (omega (arith, g.length_is)) g.names_at
            ]
      ]

  pub row : (k : ℕ) → k < length ps → Row o names k (part ps k)
  row k lt =
      elim (cases_lt k (length o.sections)) [
        | inl first ↦ row_at k k (section_part (sec o.sections k)) (placed k first) refl (g.section_at k first)
        | inr after ↦
            elim (cases_lt k (length o.sections + rela_count o.sections)) [
              | inl second ↦ (
                  let place : length o.sections + (k - length o.sections) ≡ k = omega arith in
                  subst (λ (i : ℕ). Row o names i (part ps i)) place (row_rela (k - length o.sections) (omega arith)))
              | inr late ↦ row_late k late lt
            ]
      ]

-- ---- a part in the file

pub record IsPart (f : File) (names : List ℕ) (i : ℕ) (p : Part) : Type 0 where
  pub start : ℕ
  pub place : ℕ
  pub header : SectionIs f i start place p
  pub stands : Stands f.bytes place p.bytes
  pub named : Ended names start p.name

pub is_part : (f : File) (ps : List Part) (names : List ℕ) → Holds f ps names → (k : ℕ) → k < length ps → IsPart f names (suc k) (part ps k)
is_part f ps names h k lt = record { start = h.start k; place = h.place k; header = h.section_is k lt; stands = h.stands k lt; named = h.named k lt }
