-- The values of symbols are numbers of eight bytes, so that absolute symbols have addresses of 64 bits.
use Rattle.std.proofs.Common.{◌≡◌, ℕ, zero, suc, ◌+◌, ◌<◌, ◌^◌, Bool, true, false, cond, ◌==◌, List, [], ◌∷◌, length, map, Option, Some, None, subst, Ok, Err, arith}
use Rattle.std.specs.Prelude.{slice_index}
use Rattle.std.specs.Option.{option_map_or}
use Rattle.std.specs.List.{All}
use Rattle.list_laws.proofs.Each.{all_mapped}
use Rattle.orc_words.proofs.Numbers.{number_at-lt}
use Rattle.elf_read.specs.declared.object.ElfObject.{ElfObject}
use Rattle.elf_read.specs.declared.object.SymPlace.{SymPlace}
use Rattle.elf_read.specs.declared.object.SymPlace.TheVariants as place
use Rattle.elf_read.specs.declared.object.Symbol.{Symbol}
use Rattle.elf_read.specs.File.{file_of, symbol_entry}
use Rattle.elf_read.specs.Object.{object_of, object_in}
use Rattle.elf_read.specs.Symbols.{symbol_in, symbol_zero, symbol_count, numbers, entry}
use Rattle.link_model.specs.declared.graph.GSym.{GSym}
use Rattle.link_model.specs.declared.graph.LinkGraph.{LinkGraph}
use Rattle.link_graph.specs.Checks.{first_failed, graph_of_object}
use Rattle.link_graph.specs.Object.{is_common, graph_place, graph_symbols, graph_of_parts}
use Rattle.link_graph.specs.Padding.{all_cuts, trimmed, trimmed_symbol}
use Rattle.link_graph.specs.declared.error.GraphError.{GraphError}
use Rattle.link_graph.proofs.ReadNames.{object_is}
use Rattle.object_files.specs.Files.{IsAddress, HasAddresses}
use Rattle.object_files.specs.Steps.{HasValues}

-- ---- the values of symbols

entry_fits : (bytes : List ℕ) (at : ℕ) → ((k : ℕ) → slice_index bytes k < 256) → (symbol_entry bytes at).value < 2 ^ 64
unfolding symbol_entry
entry_fits bytes at h = number_at-lt 8 (slice_index bytes) (at + 8) h

value_fits : (bytes : List ℕ) (j : ℕ) → ((k : ℕ) → slice_index bytes k < 256) → (entry (file_of bytes) j).value < 2 ^ 64
unfolding entry file_of
value_fits bytes j h = entry_fits bytes _ h

either_fits : (test : Bool) (a b : Symbol) → a.value < 2 ^ 64 → b.value < 2 ^ 64 → (cond test a b).value < 2 ^ 64
either_fits true a b x y = x
either_fits false a b x y = y

symbol_fits : (bytes : List ℕ) (j : ℕ) → ((k : ℕ) → slice_index bytes k < 256) → (symbol_in (file_of bytes) j).value < 2 ^ 64
unfolding symbol_in
symbol_fits bytes j h = either_fits (j == 0) symbol_zero _ (omega arith) (value_fits bytes j h)

object_fits : (bytes : List ℕ) → ((k : ℕ) → slice_index bytes k < 256) → HasValues (object_in (file_of bytes))
unfolding object_in
object_fits bytes h = all_mapped (λ (s : Symbol). s.value < 2 ^ 64) (symbol_in (file_of bytes)) (λ j. symbol_fits bytes j h) (numbers (symbol_count (file_of bytes)))

pub values_fit : (bytes : List ℕ) (o : ElfObject) → ((k : ℕ) → slice_index bytes k < 256) → object_of bytes ≡ Ok o → HasValues o
values_fit bytes o h read = subst HasValues (object_is bytes o read) (object_fits bytes h)

-- ---- the addresses of absolute symbols

-- a symbol at any place
place_fits : (o : ElfObject) (common : ℕ) (s : Symbol) (p : SymPlace) → s.value < 2 ^ 64 → IsAddress (graph_place common (trimmed_symbol (all_cuts o.sections) (record s { place = p })) p)
place_fits o common s place.Undef h = tt
place_fits o common s place.Abs h = h
place_fits o common s place.Common h = tt
place_fits o common s (place.In section) h = tt
place_fits o common s place.Passed h = omega arith

symbols_fit : (names : List (List ℕ)) (o : ElfObject) (common : ℕ) (ss : List Symbol) → All (λ (s : Symbol). s.value < 2 ^ 64) ss → All (λ (s : GSym). IsAddress s.place) (graph_symbols names common (map (trimmed_symbol (all_cuts o.sections)) ss))
symbols_fit names o common [] h k d lt = absurd (omega arith)
symbols_fit names o common (s ∷ ss) h zero d lt = place_fits o common s s.place (h 0 s (omega arith))
symbols_fit names o common (s ∷ ss) h (suc k) d lt = symbols_fit names o (cond (is_common s.place) (common + 1) common) ss (λ i e less. h (suc i) e (omega arith)) k d (omega arith)

pub made_of : (failed : Option GraphError) (made g : LinkGraph) → option_map_or Err failed (Ok made) ≡ Ok g → made ≡ g
made_of None made g h = cc
made_of (Some e) made g h = absurd cc

pub addresses_fit : (names : List (List ℕ)) (o : ElfObject) (g : LinkGraph) → graph_of_object names o ≡ Ok g → HasValues o → HasAddresses g
addresses_fit names o g made h =
    subst HasAddresses (made_of (first_failed (graph_of_parts names (trimmed o)) o) (graph_of_parts names (trimmed o)) g made) (symbols_fit names o (length (trimmed o).sections) o.symbols h)
