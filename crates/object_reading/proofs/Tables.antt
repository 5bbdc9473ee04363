-- The entries of tables, each at its place.
use Rattle.std.proofs.Common.{◌≡◌, ℕ, zero, suc, ◌+◌, ◌*◌, ◌<◌, ◌≤◌, pos, List, [], ◌∷◌, length, get_or, take, drop, slice_get, Some, refl, sym, subst, length-append, arith}
use Rattle.std.proofs.lemmas.List.{length-take-le}
use Rattle.elf_read.specs.declared.object.Reloc.{Reloc}
use Rattle.elf_read.specs.declared.object.Symbol.{Symbol}
use Rattle.elf_read.specs.Symbols.{symbol_zero}
use Rattle.elf_write.specs.Bytes.{string_place}
use Rattle.elf_write.specs.Tables.{Symtab, reloc_bytes, relocs_bytes, symbol_bytes, with_symbol, with_symbols, entry_zero, symtab_of}
use Rattle.object_reading.specs.Places.{Stands, Ended}
use Rattle.object_reading.proofs.Standing.{stands_right, stands_whole, stands_first, stands_last, stands_within, stands_moved, stands_in}
use Rattle.object_reading.proofs.Entries.{length-reloc_bytes, length-symbol_bytes}
use Rattle.object_reading.proofs.Texts.{string_first, string_place-le, string_ended}

-- ---- relocations

abbrev pub no_reloc : Reloc
no_reloc = record { at = 0; kind = 0; symbol = 0; addend = pos 0 }

pub length-relocs_bytes : (rs : List Reloc) → length (relocs_bytes rs) ≡ 24 * length rs
length-relocs_bytes [] = refl
length-relocs_bytes (r ∷ rs) = omega (arith, length-append (reloc_bytes r) (relocs_bytes rs), length-reloc_bytes r, length-relocs_bytes rs)

pub reloc_there : (rs : List Reloc) (k : ℕ) → k < length rs → Stands (relocs_bytes rs) (24 * k) (reloc_bytes (get_or rs k no_reloc))
reloc_there [] k lt = absurd (omega arith)
reloc_there (r ∷ rs) zero lt = stands_first (reloc_bytes r) (relocs_bytes rs)
reloc_there (r ∷ rs) (suc k) lt = stands_moved (24 * suc k) (stands_within (stands_last (reloc_bytes r) (relocs_bytes rs)) (reloc_there rs k (omega arith))) (omega (arith, length-reloc_bytes r))

-- ---- symbols

abbrev pub sym_at : List Symbol → ℕ → Symbol
sym_at ss k = get_or ss k symbol_zero

record Follows (t u : Symtab) : Type 0 where
  entries : Stands u.entries 0 t.entries
  strings : Stands u.strings 0 t.strings

follows : (ss : List Symbol) (t : Symtab) → Follows t (with_symbols ss t)
follows [] t = record { entries = stands_whole t.entries; strings = stands_whole t.strings }
follows (s ∷ ss) t =
    let rest = follows ss (with_symbol s t) in
    record {
      entries = stands_within rest.entries (stands_first t.entries (symbol_bytes (string_place s.name t.strings) s));
      strings = stands_within rest.strings (string_first s.name t.strings);
    }

pub length-entries : (ss : List Symbol) (t : Symtab) → length (with_symbols ss t).entries ≡ length t.entries + 24 * length ss
length-entries [] t = omega arith
length-entries (s ∷ ss) t =
    let e : List ℕ = symbol_bytes (string_place s.name t.strings) s in
    omega (arith, length-entries ss (with_symbol s t), length-append t.entries e, length-symbol_bytes (string_place s.name t.strings) s)

split_symbols : (ss : List Symbol) (k : ℕ) (t : Symtab) → k < length ss → with_symbols ss t ≡ with_symbols (drop (suc k) ss) (with_symbol (sym_at ss k) (with_symbols (take k ss) t))
split_symbols [] k t lt = absurd (omega arith)
split_symbols (s ∷ ss) zero t lt = refl
split_symbols (s ∷ ss) (suc k) t lt = split_symbols ss k (with_symbol s t) (omega arith)

-- an entry of the table, and its name in the strings
pub record SymbolThere (t : Symtab) (k : ℕ) (s : Symbol) : Type 0 where
  pub start : ℕ
  pub low : start ≤ length t.strings
  pub entry : Stands t.entries (24 * suc k) (symbol_bytes start s)
  pub named : Ended t.strings start s.name

pub symbol_there : (ss : List Symbol) (k : ℕ) → k < length ss → SymbolThere (with_symbols ss entry_zero) k (sym_at ss k)
symbol_there ss k lt =
    let t : Symtab = with_symbols (take k ss) entry_zero in
    let s : Symbol = sym_at ss k in
    let after : Follows (with_symbol s t) (with_symbols ss entry_zero) = subst (λ u. Follows (with_symbol s t) u) (sym (split_symbols ss k entry_zero lt)) (follows (drop (suc k) ss) (with_symbol s t)) in
    let len = length-entries (take k ss) entry_zero in
    let taken = length-take-le k ss (omega arith) in
    let whole = stands_in (stands_within after.strings (string_first s.name t.strings)) in
    record {
      start = string_place s.name t.strings;
      low = omega (arith, whole, string_place-le s.name t.strings);
      entry = stands_moved (24 * suc k) (stands_right t.entries (symbol_bytes (string_place s.name t.strings) s) after.entries) (omega (arith, len, taken));
      named = string_ended s.name t.strings (follows ss entry_zero).strings after.strings;
    }

-- ---- the symbols of an object

pub not_empty : (ss : List Symbol) (s : Symbol) → slice_get ss 0 ≡ Some s → length ss ≡ suc (length (drop 1 ss))
not_empty [] s e = absurd cc
not_empty (x ∷ ss) s e = refl

pub first_is : (ss : List Symbol) (s : Symbol) → slice_get ss 0 ≡ Some s → sym_at ss 0 ≡ s
first_is [] s e = absurd cc
first_is (x ∷ ss) s e = cc

pub length-table : (ss : List Symbol) → length (symtab_of ss).entries ≡ 24 + 24 * length (drop 1 ss)
unfolding symtab_of
length-table ss = length-entries (drop 1 ss) entry_zero

pub there_in : (ss : List Symbol) (j : ℕ) → j < length (drop 1 ss) → SymbolThere (symtab_of ss) j (sym_at (drop 1 ss) j)
unfolding symtab_of
there_in ss j lt = symbol_there (drop 1 ss) j lt
