-- The checks of the symbols and relocations (System V gABI, "Symbol Table", "Relocation"), as this
-- project's profile has them, and the object's symbols and relocations.
use Rattle.std.specs.Prelude.{ℕ, ◌+◌, ◌*◌, ◌/◌, ◌^◌, Bool, ◌&&◌, ◌||◌, not, ◌==◌, nat_lt, nat_le, List, [], length, take, drop, map, max, Option, Some, None, is_none, unwrap_or, if◌then◌else◌}
use Rattle.std.specs.List.{list_any, range_with_len, filter}
use Rattle.std.specs.Str.{bytes_eq}
use Rattle.elf_read.specs.declared.error.ElfError.{ElfError}
use Rattle.elf_read.specs.declared.error.ElfError.TheVariants.{BadSymbol, BadLink, NotBuilt}
use Rattle.elf_read.specs.declared.error.NotBuiltKind.TheVariants.{Bind, Xindex}
use Rattle.elf_read.specs.declared.fields.SectionHeader.{SectionHeader}
use Rattle.elf_read.specs.declared.fields.SymbolEntry.{SymbolEntry}
use Rattle.elf_read.specs.declared.object.Reloc.{Reloc}
use Rattle.elf_read.specs.declared.object.SymPlace.{SymPlace}
use Rattle.elf_read.specs.declared.object.SymPlace.TheVariants.{Undef, Abs, Common, In, Passed}
use Rattle.elf_read.specs.declared.object.Symbol.{Symbol}
use Rattle.elf_read.specs.Choice.{when, ◌otherwise◌, any_below}
use Rattle.elf_read.specs.File.{File, section, symbol_entry, reloc_entry, contents}
use Rattle.elf_read.specs.Gabi.{shn_undef, shn_abs, shn_common, shn_xindex, stb_local, stb_weak}
use Rattle.elf_read.specs.Sections.{is_kept, is_small_power, symtab, rela_of, text_in}

-- how many symbols there are; symbol 0 is there without a table too
unfoldable pub symbol_count : File → ℕ
symbol_count f = max 1 ((symtab f).size / 24)

unfoldable pub entry : File → ℕ → SymbolEntry
entry f j = symbol_entry f.bytes ((symtab f).offset + 24 * j)

-- the name of a symbol, of at most 4,096 bytes and the zero byte that ends it
unfoldable pub name_of : File → SymbolEntry → Option (List ℕ)
name_of f e = text_in (take 4097 (drop e.name (contents f.bytes (section f (symtab f).link))))

unfoldable pub symbol_name : File → ℕ → List ℕ
symbol_name f j = unwrap_or (name_of f (entry f j)) []

-- a symbol that other objects may see; symbol 0 is none
unfoldable pub is_global : File → ℕ → Bool
is_global f j = not (j == 0) && not ((entry f j).bind == stb_local)

-- the section number is that of a section, and of none of the two that mean something else
abbrev pub in_section : SymbolEntry → Bool
in_section e = not (e.section == shn_abs) && not (e.section == shn_common)

-- what a non-local name is not: empty, or with a blank, a control byte or DEL in it
unfoldable pub is_bad_name : List ℕ → Bool
is_bad_name name = length name == 0 || list_any (λ b. nat_lt b 0x21 || b == 0x7f) name

-- an earlier non-local symbol has the name
unfoldable pub is_taken : File → ℕ → List ℕ → Bool
is_taken f j name = any_below j (λ k. is_global f k && bytes_eq name (symbol_name f k))

-- where a symbol lies, and its value there
unfoldable pub is_misplaced : File → SymbolEntry → Bool
is_misplaced f e =
    (in_section e && nat_le f.count e.section)
    || (in_section e && is_kept (section f e.section) && nat_lt (section f e.section).size e.value)
    || (e.section == shn_common && (not (is_small_power e.value) || nat_lt (2 ^ 24) e.size))
    || (e.bind == stb_local && (e.section == shn_undef || e.section == shn_common))

-- of a symbol by itself
unfoldable pub own_refusal : File → ℕ → Option ElfError
own_refusal f j = let e = entry f j in
    when (is_none (name_of f e)) (BadSymbol j)
    otherwise when (nat_lt stb_weak e.bind) (NotBuilt Bind)
    otherwise when (e.section == shn_xindex) (NotBuilt Xindex)
    otherwise when (is_misplaced f e) (BadSymbol j)
    otherwise when (not (e.bind == stb_local) && is_bad_name (symbol_name f j)) (BadSymbol j)

-- of a symbol among those before it; symbol 0 is not checked
unfoldable pub symbol_refusal : File → ℕ → Option ElfError
symbol_refusal f j = if j == 0 then None else own_refusal f j otherwise when (is_global f j && is_taken f j (symbol_name f j)) (BadSymbol j)

-- ---- relocations

abbrev pub reloc_count : SectionHeader → ℕ
reloc_count s = s.size / 24

unfoldable pub reloc : File → SectionHeader → ℕ → Reloc
reloc f s k = reloc_entry f.bytes (s.offset + 24 * k)

-- a symbol number that no symbol has; 0xffffffff is never one
abbrev pub is_no_symbol : File → ℕ → Bool
is_no_symbol f number = nat_le (symbol_count f) number || number == 0xffffffff

abbrev pub entries_refusal : File → Option ℕ → Option ElfError
entries_refusal f None = None
entries_refusal f (Some r) = when (any_below (reloc_count (section f r)) (λ k. is_no_symbol f (reloc f (section f r) k).symbol)) (BadLink r)

-- the relocations of a kept section name symbols that are there
unfoldable pub relocs_refusal : File → ℕ → Option ElfError
relocs_refusal f i = if is_kept (section f i) then entries_refusal f (rela_of f i) else None

-- ---- what the object has

abbrev pub numbers : ℕ → List ℕ
numbers n = range_with_len 0 n

abbrev pub entries_in : File → Option ℕ → List Reloc
entries_in f None = []
entries_in f (Some r) = map (reloc f (section f r)) (numbers (reloc_count (section f r)))

-- the relocations of a section
unfoldable pub relocs_in : File → ℕ → List Reloc
relocs_in f i = entries_in f (rela_of f i)

-- the kept sections below a number
unfoldable pub kept_below : File → ℕ → List ℕ
kept_below f n = filter (λ i. is_kept (section f i)) (numbers n)

unfoldable pub place_of : File → SymbolEntry → SymPlace
place_of f e =
    if e.section == shn_undef then Undef else
    if e.section == shn_abs then Abs else
    if e.section == shn_common then Common else
    if is_kept (section f e.section) then In (length (kept_below f e.section)) else Passed

abbrev pub symbol_zero : Symbol
symbol_zero = record { name = []; bind = 0; kind = 0; vis = 0; place = Abs; value = 0; size = 0 }

-- symbol 0 is the empty, absolute 0, whatever its bytes say
unfoldable pub symbol_in : File → ℕ → Symbol
symbol_in f j = let e = entry f j in
    if j == 0 then symbol_zero else
    record { name = symbol_name f j; bind = e.bind; kind = e.kind; vis = e.vis; place = place_of f e; value = e.value; size = e.size }
