-- The parts of an object's file, in their order.
use Rattle.std.proofs.Common.{◌≡◌, ℕ, suc, ◌+◌, ◌-◌, ◌<◌, List, [], ◌∷◌, ◌++◌, length, map, codes, refl, ap, ◌∙◌, length-append, arith}
use Rattle.std.specs.List.{filter}
use Rattle.std.proofs.lemmas.List.{length-map, get_or_append_left, get_or-append_right, get_or-map}
use Rattle.elf_read.specs.declared.object.ElfObject.{ElfObject}
use Rattle.elf_write.specs.Parts.{Part, section_part, rela_parts, symtab_part, strings_part}
use Rattle.elf_write.specs.Tables.{symtab_of, is_local}
use Rattle.elf_write.specs.Files.{rela_count, symtab_number, parts_of}
use Rattle.object_reading.specs.Places.{part, no_part}
use Rattle.object_reading.proofs.Relas.{sec, no_sec, length-rela_parts}

-- ---- two lists of parts, and three parts after them

module _ (ms rs : List Part) (y z s : Part) (n m : ℕ) (ms_len : length ms ≡ n) (rs_len : length rs ≡ m) where
  row_length : length (ms ++ rs ++ (y ∷ z ∷ []) ++ s ∷ []) ≡ n + m + 3
  row_length = omega (arith, length-append (ms ++ rs ++ (y ∷ z ∷ [])) (s ∷ []), length-append (ms ++ rs) (y ∷ z ∷ []), length-append ms rs, ms_len, rs_len)

  early : (k : ℕ) → k < n + m → part (ms ++ rs ++ (y ∷ z ∷ []) ++ s ∷ []) k ≡ part (ms ++ rs) k
  early k lt =
      let len = length-append ms rs in
      let longer = length-append (ms ++ rs) (y ∷ z ∷ []) in
      get_or_append_left (ms ++ rs ++ (y ∷ z ∷ [])) (s ∷ []) no_part k (omega (arith, longer, len, ms_len, rs_len))
      ∙ get_or_append_left (ms ++ rs) (y ∷ z ∷ []) no_part k (omega (arith, len, ms_len, rs_len))

  row_first : (k : ℕ) → k < n → part (ms ++ rs ++ (y ∷ z ∷ []) ++ s ∷ []) k ≡ part ms k
  row_first k lt = early k (omega arith) ∙ get_or_append_left ms rs no_part k (omega (arith, ms_len))

  row_second : (j : ℕ) → j < m → part (ms ++ rs ++ (y ∷ z ∷ []) ++ s ∷ []) (n + j) ≡ part rs j
  row_second j lt =
      let place : n + j - n ≡ j = omega arith in
      early (n + j) (omega arith) ∙ get_or-append_right ms rs n (n + j) no_part ms_len (omega arith) ∙ ap (λ (k : ℕ). part rs k) place

  late : (j : ℕ) → j < 2 → part (ms ++ rs ++ (y ∷ z ∷ []) ++ s ∷ []) (n + m + j) ≡ part (y ∷ z ∷ []) j
  late j lt =
      let len : length (ms ++ rs) ≡ n + m = omega (arith, length-append ms rs, ms_len, rs_len) in
      let longer = length-append (ms ++ rs) (y ∷ z ∷ []) in
      let place : n + m + j - (n + m) ≡ j = omega arith in
      get_or_append_left (ms ++ rs ++ (y ∷ z ∷ [])) (s ∷ []) no_part (n + m + j) (omega (arith, longer, len))
      ∙ get_or-append_right (ms ++ rs) (y ∷ z ∷ []) (n + m) (n + m + j) no_part len (omega arith)
      ∙ ap (λ (k : ℕ). part (y ∷ z ∷ []) k) place

  row_third : part (ms ++ rs ++ (y ∷ z ∷ []) ++ s ∷ []) (n + m) ≡ y
  row_third = ap (λ (k : ℕ). part (ms ++ rs ++ (y ∷ z ∷ []) ++ s ∷ []) k) (omega arith) ∙ late 0 (omega arith)

  row_fourth : part (ms ++ rs ++ (y ∷ z ∷ []) ++ s ∷ []) (n + m + 1) ≡ z
  row_fourth = late 1 (omega arith)

  row_last : part (ms ++ rs ++ (y ∷ z ∷ []) ++ s ∷ []) (n + m + 2) ≡ s
  row_last =
      let longer : length (ms ++ rs ++ (y ∷ z ∷ [])) ≡ n + m + 2 = omega (arith, length-append (ms ++ rs) (y ∷ z ∷ []), length-append ms rs, ms_len, rs_len) in
      let place : n + m + 2 - (n + m + 2) ≡ 0 = omega arith in
      get_or-append_right (ms ++ rs ++ (y ∷ z ∷ [])) (s ∷ []) (n + m + 2) (n + m + 2) no_part longer (omega arith)
      ∙ ap (λ (k : ℕ). part (s ∷ []) k) place

-- ---- the parts of an object

pub record PartsOf (o : ElfObject) (ps : List Part) (names : List ℕ) : Type 0 where
  pub length_is : length ps ≡ length o.sections + rela_count o.sections + 3
  pub number_is : symtab_number o ≡ suc (length o.sections + rela_count o.sections)
  pub section_at : (k : ℕ) → k < length o.sections → part ps k ≡ section_part (sec o.sections k)
  pub rela_at : (j : ℕ) → j < rela_count o.sections → part ps (length o.sections + j) ≡ part (rela_parts (symtab_number o) 1 o.sections) j
  pub symtab_at : part ps (length o.sections + rela_count o.sections) ≡ symtab_part (symtab_number o + 1) (length (filter is_local o.symbols)) (symtab_of o.symbols)
  pub strings_at : part ps (length o.sections + rela_count o.sections + 1) ≡ strings_part (codes ".strtab") (symtab_of o.symbols).strings
  pub names_at : part ps (length o.sections + rela_count o.sections + 2) ≡ strings_part (codes ".shstrtab") names

number_of : (o : ElfObject) → symtab_number o ≡ suc (length o.sections + rela_count o.sections)
unfolding symtab_number
number_of o = omega arith

abbrev rows : ElfObject → List Part
rows o =
    map section_part o.sections
    ++ rela_parts (symtab_number o) 1 o.sections
    ++ (symtab_part (symtab_number o + 1) (length (filter is_local o.symbols)) (symtab_of o.symbols) ∷ strings_part (codes ".strtab") (symtab_of o.symbols).strings ∷ [])

rows_are : (o : ElfObject) → parts_of o ≡ rows o
unfolding parts_of
rows_are o = refl

pub parts_are : (o : ElfObject) (names : List ℕ) → PartsOf o (parts_of o ++ strings_part (codes ".shstrtab") names ∷ []) names
parts_are o names =
    let ms : List Part = map section_part o.sections in
    let rs : List Part = rela_parts (symtab_number o) 1 o.sections in
    let y : Part = symtab_part (symtab_number o + 1) (length (filter is_local o.symbols)) (symtab_of o.symbols) in
    let z : Part = strings_part (codes ".strtab") (symtab_of o.symbols).strings in
    let s : Part = strings_part (codes ".shstrtab") names in
    let n : ℕ = length o.sections in
    let m : ℕ = rela_count o.sections in
    let ms_len : length ms ≡ n = length-map o.sections section_part in
    let rs_len : length rs ≡ m = length-rela_parts (symtab_number o) 1 o.sections in
    let e : parts_of o ++ s ∷ [] ≡ ms ++ rs ++ (y ∷ z ∷ []) ++ s ∷ [] = ap (λ l. l ++ s ∷ []) (rows_are o) in
    record {
      length_is = ap length e ∙ row_length ms rs y z s n m ms_len rs_len;
      number_is = number_of o;
      section_at = λ k lt. ap (λ l. part l k) e ∙ row_first ms rs y z s n m ms_len rs_len k lt ∙ get_or-map section_part o.sections k no_sec no_part lt;
      rela_at = λ j lt. ap (λ l. part l (n + j)) e ∙ row_second ms rs y z s n m ms_len rs_len j lt;
      symtab_at = ap (λ l. part l (n + m)) e ∙ row_third ms rs y z s n m ms_len rs_len;
      strings_at = ap (λ l. part l (n + m + 1)) e ∙ row_fourth ms rs y z s n m ms_len rs_len;
      names_at = ap (λ l. part l (n + m + 2)) e ∙ row_last ms rs y z s n m ms_len rs_len;
    }
