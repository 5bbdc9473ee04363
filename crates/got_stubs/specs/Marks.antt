-- What the program notes of each symbol.
use Rattle.std.specs.Prelude.{◌≡◌, ℕ, ◌+◌, ◌<◌, if◌then◌else◌, Bool, true, false, ◌&&◌, ◌||◌, not, List, length, slice_index_or}
use Rattle.link_model.specs.Graph.{is_defined, is_offered, first_flag, own_symbols, numbers_where, is_referred}
use Rattle.link_model.specs.Layout.{needs_cell, needs_stub, some_edge}
use Rattle.link_model.specs.declared.graph.Edge.{Edge}
use Rattle.link_model.specs.declared.graph.GSym.{GSym}
use Rattle.got_stubs.specs.declared.marks.Mark.{Mark}
use Rattle.got_stubs.specs.declared.parts.Part.{Part}
use Rattle.got_stubs.specs.declared.parts.Part.TheVariants.{External, Cell, Stub}

abbrev pub no_mark : Mark
no_mark = record { referred = false; cell = false; called = false }

-- a mark, with one more edge that refers to the symbol
abbrev pub marked : Mark → Edge → Mark
marked m e = record { referred = true; cell = m.cell || needs_cell e; called = m.called || needs_stub e }

-- how edges refer to a symbol
abbrev pub mark_of : List Edge → ℕ → Mark
mark_of edges s = record { referred = is_referred edges s; cell = some_edge needs_cell edges s; called = some_edge needs_stub edges s }

abbrev pub AreMarks : List Edge → List Mark → Type 0
AreMarks edges marks = (s : ℕ) → s < length marks → slice_index_or marks s no_mark ≡ mark_of edges s

-- a symbol that the unit defines, or doesn't, has a part by its mark
abbrev pub has_part : Part → Bool → Mark → Bool
has_part External own m = not own && m.referred
has_part Cell own m = m.cell || not own && m.called
has_part Stub own m = not own && m.called

abbrev pub part_at : Part → List Mark → ℕ → Bool → Bool
part_at part marks s own = has_part part own (slice_index_or marks s no_mark)

-- whether the unit defines a symbol, where the flags begin with its own
abbrev pub owner_of : GSym → List Bool → Bool
owner_of s live = if is_offered s then first_flag live else is_defined s.place

abbrev pub next_offer : GSym → ℕ → ℕ
next_offer s offer = if is_offered s then offer + 1 else offer

-- the symbols that have a part, by the marks
abbrev pub symbols_with : Part → List Mark → List GSym → List Bool → List ℕ
symbols_with part marks ss live = numbers_where (part_at part marks) 0 (own_symbols ss live)
