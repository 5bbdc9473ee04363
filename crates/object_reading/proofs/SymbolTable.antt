-- The symbols of an object's file: each is read as it was written.
use Rattle.std.proofs.Common.{◌≡◌, ℕ, zero, suc, ◌+◌, ◌*◌, ◌^◌, ◌<◌, ◌≤◌, false, ◌==◌, List, [], length, take, drop, map, Some, unwrap_or, refl, sym, ap, ◌∙◌, get_or-drop, arith}
use Rattle.std.proofs.lemmas.Bool.{ne_eqb}
use Rattle.std.proofs.lemmas.List.FromFn.{fill_by_all, length-range_with_len}
use Rattle.elf_read.specs.declared.object.ElfObject.{ElfObject}
use Rattle.elf_read.specs.declared.object.Section.{Section}
use Rattle.elf_read.specs.declared.object.SymPlace.{SymPlace}
use Rattle.elf_read.specs.declared.object.SymPlace.TheVariants.{Undef, Abs, Common, In, Passed}
use Rattle.elf_read.specs.declared.object.Symbol.{Symbol}
use Rattle.elf_read.specs.File.{File, section, contents}
use Rattle.elf_read.specs.Sections.{symtab, text_in}
use Rattle.elf_read.specs.Symbols.{symbol_count, entry, name_of, symbol_name, place_of, symbol_in, symbol_zero, kept_below, numbers}
use Rattle.elf_write.specs.Tables.{symtab_of, section_number}
use Rattle.elf_write.specs.Files.{symtab_number}
use Rattle.elf_write.specs.Canonical.{Lies, HoldsSymbol}
use Rattle.object_reading.proofs.Standing.{stands_in, stands_moved, stands_within}
use Rattle.object_reading.proofs.Entries.{SymbolFits, EntryIs, symbol_entry-written}
use Rattle.object_reading.proofs.Texts.{ended_short}
use Rattle.object_reading.proofs.Tables.{sym_at, not_empty, first_is, length-table, there_in}
use Rattle.object_reading.proofs.InFile.{InFile, contents_are, symbols_at, strings_at, kept_placed}
use Rattle.object_reading.proofs.Found.{symtab_section, kept_some}

-- ---- an entry

place_small : (sections : List Section) (bind value size : ℕ) (p : SymPlace) → Lies sections bind value size p → length sections + 3 < 0xffff → section_number p < 2 ^ 16
place_small sections bind value size Undef lies few = omega arith
place_small sections bind value size Abs lies few = omega arith
place_small sections bind value size Common lies few = omega arith
place_small sections bind value size (In n) lies few = omega (arith, lies.0)
place_small sections bind value size Passed lies few = omega arith

-- the entry of a symbol, as a reader finds it
pub record IsEntry (f : File) (i name : ℕ) (y : Symbol) : Type 0 where
  pub name_is : (entry f i).name ≡ name
  pub bind_is : (entry f i).bind ≡ y.bind
  pub kind_is : (entry f i).kind ≡ y.kind
  pub vis_is : (entry f i).vis ≡ y.vis
  pub section_is : (entry f i).section ≡ section_number y.place
  pub value_is : (entry f i).value ≡ y.value
  pub size_is : (entry f i).size ≡ y.size

entry_from : (f : File) (i name : ℕ) (y : Symbol) → EntryIs f.bytes ((symtab f).offset + 24 * i) name y → IsEntry f i name y
unfolding entry
entry_from f i name y e = record { name_is = e.name_is; bind_is = e.bind_is; kind_is = e.kind_is; vis_is = e.vis_is; section_is = e.section_is; value_is = e.value_is; size_is = e.size_is }

module _ (o : ElfObject) (f : File) (w : InFile o f) where
  pub count_symbols : length o.symbols ≡ suc (length (drop 1 o.symbols))
  count_symbols = not_empty o.symbols symbol_zero w.canonical.first

  pub length-symtab : length (symtab_of o.symbols).entries ≡ 24 * length o.symbols
  length-symtab = omega (arith, length-table o.symbols, count_symbols)

  pub few_symbols : 24 * length o.symbols ≤ length f.bytes
  few_symbols = let inside = stands_in (symbols_at o f w).stands in omega (arith, inside, length-symtab)

  pub symtab_size : (symtab f).size ≡ 24 * length o.symbols
  symtab_size = rw (symtab_section o f w) ((symbols_at o f w).header.size_is ∙ length-symtab)

  pub symbol_count_is : symbol_count f ≡ length o.symbols
  unfolding symbol_count
  symbol_count_is = omega (arith, symtab_size, count_symbols)

  symtab_offset : (symtab f).offset ≡ (symbols_at o f w).place
  symtab_offset = rw (symtab_section o f w) (symbols_at o f w).header.offset_is

  pub symtab_link : (symtab f).link ≡ symtab_number o + 1
  symtab_link = rw (symtab_section o f w) (symbols_at o f w).header.link_is

  strings_are : contents f.bytes (section f (symtab f).link) ≡ (symtab_of o.symbols).strings
  strings_are = ap (λ (i : ℕ). contents f.bytes (section f i)) symtab_link ∙ contents_are (strings_at o f w) refl

  strings_small : length (symtab_of o.symbols).strings < 2 ^ 32
  strings_small = let inside = stands_in (strings_at o f w).stands in omega (arith, inside, w.small)

  -- ---- symbol j + 1

  module _ (j : ℕ) (lt : j < length (drop 1 o.symbols)) where
    pub symbol_held : HoldsSymbol o.sections (sym_at (drop 1 o.symbols) j)
    symbol_held = w.canonical.symbols_in j symbol_zero lt

    few : length o.sections + 3 < 0xffff
    few = omega (arith, w.canonical.few_sections, w.parts_of.number_is)

    fits : SymbolFits (sym_at (drop 1 o.symbols) j)
    fits =
        let y : Symbol = sym_at (drop 1 o.symbols) j in
        let held = symbol_held in
        record {
          bind_in = omega (arith, held.bind_in);
          kind_in = held.kind_in;
          vis_in = held.vis_in;
          section_in = place_small o.sections y.bind y.value y.size y.place held.lies few;
          value_in = held.value_in;
          size_in = held.size_in;
        }

    pub entry_is : IsEntry f (suc j) (there_in o.symbols j lt).start (sym_at (drop 1 o.symbols) j)
    entry_is =
        let there = there_in o.symbols j lt in
        entry_from f (suc j) there.start (sym_at (drop 1 o.symbols) j)
        (symbol_entry-written there.start (sym_at (drop 1 o.symbols) j) (omega (arith, there.low, strings_small)) fits
        (stands_moved ((symtab f).offset + 24 * suc j) (stands_within (symbols_at o f w).stands there.entry) (omega (arith, symtab_offset))))

    pub name_found : name_of f (entry f (suc j)) ≡ Some (sym_at (drop 1 o.symbols) j).name
    unfolding name_of
    name_found =
        let there = there_in o.symbols j lt in
        (λ i. text_in (take 4097 (drop (entry_is.name_is i) (strings_are i))))
        ∙ ended_short 4097 there.named symbol_held.named (omega (arith, symbol_held.short))

    pub symbol_name_is : symbol_name f (suc j) ≡ (sym_at (drop 1 o.symbols) j).name
    unfolding symbol_name
    symbol_name_is = ap (λ n. unwrap_or n []) name_found

  -- ---- where a symbol lies

  place_is : (i bind value size : ℕ) (p : SymPlace) → Lies o.sections bind value size p → (entry f i).section ≡ section_number p → place_of f (entry f i) ≡ p
  unfolding place_of
  place_is i bind value size Undef lies e = rw e refl
  place_is i bind value size Abs lies e = rw e refl
  place_is i bind value size Common lies e = rw e refl
  place_is i bind value size (In n) lies e =
      let one : n + 1 ≡ suc n = omega arith in
      let e' : (entry f i).section ≡ suc n = e ∙ one in
      let not_undef : (suc n == 0) ≡ false = ne_eqb (suc n) 0 (λ h. omega arith) in
      let not_abs : (suc n == 0xfff1) ≡ false = ne_eqb (suc n) 0xfff1 (λ h. lies.2 (one ∙ h)) in
      let not_common : (suc n == 0xfff2) ≡ false = ne_eqb (suc n) 0xfff2 (λ h. lies.3 (one ∙ h)) in
      let kept = kept_placed o f w n lies.0 in
      let before : length (kept_below f (suc n)) ≡ n = ap length (kept_some o f w n (omega (arith, lies.0))) ∙ length-range_with_len 1 n in
      rw (e', not_undef, not_abs, not_common, kept, before) refl
  place_is i bind value size Passed lies e = absurd lies

  symbol_first : symbol_in f 0 ≡ symbol_zero
  unfolding symbol_in
  symbol_first = refl

  symbol_read : (j : ℕ) → j < length (drop 1 o.symbols) → symbol_in f (suc j) ≡ sym_at (drop 1 o.symbols) j
  unfolding symbol_in
  symbol_read j lt =
      let y : Symbol = sym_at (drop 1 o.symbols) j in
      let e = entry_is j lt in
      let later : (suc j == 0) ≡ false = ne_eqb (suc j) 0 (λ h. omega arith) in
      let name = symbol_name_is j lt in
      let place = place_is (suc j) y.bind y.value y.size y.place (symbol_held j lt).lies e.section_is in
      rw later (λ i. record { name = name i; bind = e.bind_is i; kind = e.kind_is i; vis = e.vis_is i; place = place i; value = e.value_is i; size = e.size_is i })

  each_symbol : (k : ℕ) → k < length o.symbols → sym_at o.symbols k ≡ symbol_in f k
  each_symbol zero lt = first_is o.symbols symbol_zero w.canonical.first ∙ sym symbol_first
  each_symbol (suc j) lt =
      let place : 1 + j ≡ suc j = omega arith in
      ap (sym_at o.symbols) (sym place) ∙ sym (get_or-drop 1 o.symbols j symbol_zero) ∙ sym (symbol_read j (omega (arith, count_symbols)))

  pub symbols_read : map (symbol_in f) (numbers (symbol_count f)) ≡ o.symbols
  symbols_read = ap (λ n. map (symbol_in f) (numbers n)) symbol_count_is ∙ sym (fill_by_all (symbol_in f) o.symbols (length o.symbols) symbol_zero refl each_symbol)
