-- The symbol table of a text (System V gABI, "Symbol Table"): entry 0, then the local labels in order of
-- definition, then all other symbols in order of first mention.
use Rattle.std.specs.Prelude.{ℕ, ◌+◌, Bool, true, false, ◌&&◌, ◌||◌, not, ◌==◌, List, [], ◌∷◌, ◌++◌, length, map, slice_index_or, Option, Some, None, if◌then◌else◌}
use Rattle.std.specs.List.{filter, range_with_len}
use Rattle.elf_read.specs.Symbols.{symbol_zero}
use Rattle.elf_read.specs.declared.object.SymPlace.{SymPlace}
use Rattle.elf_read.specs.declared.object.SymPlace.TheVariants.{Undef, Common, In}
use Rattle.elf_read.specs.declared.object.Symbol.{Symbol}
use Rattle.asm_state.specs.declared.marks.Definition.{Definition}
use Rattle.asm_state.specs.declared.marks.Definition.TheVariants as definition
use Rattle.asm_state.specs.declared.marks.Marks.{Marks}
use Rattle.asm_state.specs.Symbols.{Symbols, marks_at}

abbrev pub is_label : Definition → Bool
is_label (definition.Label section offset) = true
is_label _ = false

-- a label that other objects don't see
abbrev pub is_local_mark : Marks → Bool
is_local_mark m = is_label m.definition && not (m.global || m.weak)

unfoldable pub is_local : Symbols → ℕ → Bool
is_local s n = is_local_mark (marks_at n s)

-- ---- the order

abbrev pub locals : Symbols → List ℕ
locals s = filter (is_local s) s.labels

abbrev pub others_below : Symbols → ℕ → List ℕ
others_below s n = filter (λ k. not (is_local s k)) (range_with_len 0 n)

-- the symbol of a number, unless it is local
abbrev pub other_at : Symbols → ℕ → List ℕ
other_at s n = if is_local s n then [] else n ∷ []

-- the symbols by their numbers, in the order of the entries from 1 on
unfoldable pub order : Symbols → List ℕ
order s = locals s ++ others_below s (length s.names)

-- the first place of a number, where the first of the list has place k; 0 where it isn't there
abbrev pub place_from : ℕ → ℕ → List ℕ → ℕ
place_from k n [] = 0
place_from k n (m ∷ ms) = if m == n then k else place_from (k + 1) n ms

-- the entry of a symbol; entry 0 is the one of no symbol
abbrev pub entry_in : List ℕ → Option ℕ → ℕ
entry_in numbers None = 0
entry_in numbers (Some n) = place_from 1 n numbers

-- the entries of numbers, once one more has its entry, unless it had one
abbrev pub noted : ℕ → ℕ → (ℕ → ℕ) → ℕ → ℕ
noted number entry entries n = if number == n && entries n == 0 then entry else entries n

-- ---- the entries

-- the binding: local, global, weak
abbrev pub bind_of : Marks → ℕ
bind_of m = if m.weak then 2 else if is_local_mark m then 0 else 1

-- common symbols are objects, the others have no type
abbrev pub kind_of : Definition → ℕ
kind_of (definition.Common size align) = 1
kind_of _ = 0

-- hidden, or default
abbrev pub vis_of : Marks → ℕ
vis_of m = if m.hidden then 2 else 0

abbrev pub place_of : Definition → SymPlace
place_of (definition.Label section offset) = In section
place_of (definition.Common size align) = Common
place_of definition.Nowhere = Undef

-- an offset, or the alignment of a common symbol
abbrev pub value_of : Definition → ℕ
value_of (definition.Label section offset) = offset
value_of (definition.Common size align) = align
value_of definition.Nowhere = 0

abbrev pub size_of : Definition → ℕ
size_of (definition.Common size align) = size
size_of _ = 0

abbrev pub entry_of : List ℕ → Marks → Symbol
entry_of name m = record { name = name; bind = bind_of m; kind = kind_of m.definition; vis = vis_of m; place = place_of m.definition; value = value_of m.definition; size = size_of m.definition }

unfoldable pub symbol_of : Symbols → ℕ → Symbol
symbol_of s n = entry_of (slice_index_or s.names n []) (marks_at n s)

unfoldable pub symbol_table : Symbols → List Symbol
symbol_table s = symbol_zero ∷ map (symbol_of s) (order s)
