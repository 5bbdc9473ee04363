-- The entries of an object's tables (System V gABI, "Symbol Table", "Relocation").
use Rattle.std.specs.Prelude.{ℕ, ◌+◌, ◌*◌, ◌^◌, ◌==◌, Bool, List, [], ◌∷◌, ◌++◌, drop}
use Rattle.std.specs.List.{flat_map}
use Rattle.orc_words.specs.Bits.{low_of}
use Rattle.elf_read.specs.Gabi.{shn_undef, shn_abs, shn_common, stb_local}
use Rattle.elf_read.specs.declared.object.Reloc.{Reloc}
use Rattle.elf_read.specs.declared.object.SymPlace.{SymPlace}
use Rattle.elf_read.specs.declared.object.SymPlace.TheVariants.{Undef, Abs, Common, In, Passed}
use Rattle.elf_read.specs.declared.object.Symbol.{Symbol}
use Rattle.elf_write.specs.Bytes.{number_bytes, zeros, no_strings, string_place, with_string}

-- ---- relocations

abbrev pub reloc_bytes : Reloc → List ℕ
reloc_bytes r = number_bytes 8 r.at ++ number_bytes 8 (r.symbol * 2 ^ 32 + r.kind) ++ number_bytes 8 (low_of 64 r.addend)

abbrev pub relocs_bytes : List Reloc → List ℕ
relocs_bytes relocs = flat_map reloc_bytes relocs

-- ---- symbols

-- the sections of the object are those of the file from 1 on; a passed symbol has none
abbrev pub section_number : SymPlace → ℕ
section_number Undef = shn_undef
section_number Abs = shn_abs
section_number Common = shn_common
section_number (In section) = section + 1
section_number Passed = shn_undef

-- an entry, whose name stands at a place of the string table
abbrev pub symbol_bytes : ℕ → Symbol → List ℕ
symbol_bytes name s =
    number_bytes 4 name ++ number_bytes 1 (s.bind * 16 + s.kind) ++ number_bytes 1 s.vis ++ number_bytes 2 (section_number s.place) ++ number_bytes 8 s.value ++ number_bytes 8 s.size

-- a symbol table and its string table
pub record Symtab : Type 0 where
  pub entries : List ℕ
  pub strings : List ℕ

abbrev pub with_symbol : Symbol → Symtab → Symtab
with_symbol s t = record { entries = t.entries ++ symbol_bytes (string_place s.name t.strings) s; strings = with_string s.name t.strings }

abbrev pub with_symbols : List Symbol → Symtab → Symtab
with_symbols [] t = t
with_symbols (s ∷ ss) t = with_symbols ss (with_symbol s t)

-- entry 0 is all zeros
abbrev pub entry_zero : Symtab
entry_zero = record { entries = zeros 24; strings = no_strings }

-- the entries of all symbols, from symbol 0 on
unfoldable pub symtab_of : List Symbol → Symtab
symtab_of symbols = with_symbols (drop 1 symbols) entry_zero

abbrev pub is_local : Symbol → Bool
is_local s = s.bind == stb_local
