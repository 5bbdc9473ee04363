-- A graph by a table of names is the graph by each later table, which keeps the numbers; and the checks of an object say
-- the same by every table.
use Rattle.std.proofs.Common.{◌≡◌, ℕ, suc, ◌+◌, cond, List, [], ◌∷◌, length, map, Option, Some, None, refl, sym, ap, ◌∙◌, arith}
use Rattle.std.specs.Prelude.{Contains, IsTrue, Ok, Err}
use Rattle.std.specs.Option.{option_map_or}
use Rattle.orc_ids.specs.declared.ids.NameId.{NameId}
use Rattle.orc_names.specs.Numbers.{KeepsNumbers}
use Rattle.elf_read.specs.declared.object.ElfObject.{ElfObject}
use Rattle.elf_read.specs.declared.object.Symbol.{Symbol}
use Rattle.link_model.specs.declared.graph.GSym.{GSym}
use Rattle.link_model.specs.declared.graph.LinkGraph.{LinkGraph}
use Rattle.link_graph.specs.Checks.{first_failed, graph_of_object}
use Rattle.link_graph.specs.Object.{is_common, is_global, graph_place, graph_flags, graph_symbol, graph_symbols, name_number, blocks_of, edges_from, graph_of_parts}
use Rattle.link_graph.specs.Padding.{all_cuts, trimmed, trimmed_symbol}
use Rattle.link_graph.specs.Read.{AreNamed}
use Rattle.link_graph.specs.declared.error.GraphError.{GraphError}
use Rattle.link_graph.proofs.NameNumbers.{kept}
use Rattle.link_graph.proofs.Whole.{failed_check-is}
use Rattle.link_graph.proofs.LaterNames.{either_kept, name_kept}
use Rattle.object_files.specs.Files.{IsObject}

symbol_kept : (old new : List (List ℕ)) (o : ElfObject) (common : ℕ) (s : Symbol) → KeepsNumbers old new → (IsTrue (is_global s) → Contains old s.name) →
    graph_symbol old common (trimmed_symbol (all_cuts o.sections) s) ≡ graph_symbol new common (trimmed_symbol (all_cuts o.sections) s)
symbol_kept old new o common s keeps named =
    let t = trimmed_symbol (all_cuts o.sections) s in
    ap (λ (n : Option NameId). record { name = n; place = graph_place common t t.place; flags = graph_flags t; global = is_global t })
    (either_kept (is_global s) (name_number old s.name) (name_number new s.name) (λ global. name_kept old new s.name keeps (named global)))

symbols_kept : (old new : List (List ℕ)) (o : ElfObject) (common : ℕ) (ss : List Symbol) → KeepsNumbers old new → AreNamed old ss →
    graph_symbols old common (map (trimmed_symbol (all_cuts o.sections)) ss) ≡ graph_symbols new common (map (trimmed_symbol (all_cuts o.sections)) ss)
symbols_kept old new o common [] keeps named = refl
symbols_kept old new o common (s ∷ ss) keeps named =
    rw (
      symbol_kept old new o common s keeps (named 0 s (omega arith)),
      symbols_kept old new o (cond (is_common s.place) (common + 1) common) ss keeps (λ k d lt. named (suc k) d (omega arith)),
    ) refl

parts_kept : (old new : List (List ℕ)) (o : ElfObject) → KeepsNumbers old new → AreNamed old o.symbols → graph_of_parts old (trimmed o) ≡ graph_of_parts new (trimmed o)
parts_kept old new o keeps named =
    let t = trimmed o in
    ap (λ (ss : List GSym). record { blocks = blocks_of t; symbols = ss; edges = edges_from 0 t.sections })
    (symbols_kept old new o (length t.sections) o.symbols keeps named)

-- ---- the checks

same_check : (old new : List (List ℕ)) (o : ElfObject) → first_failed (graph_of_parts old (trimmed o)) o ≡ first_failed (graph_of_parts new (trimmed o)) o
same_check old new o = failed_check-is old o ∙ sym (failed_check-is new o)

graph_kept : (old new : List (List ℕ)) (o : ElfObject) → KeepsNumbers old new → AreNamed old o.symbols → graph_of_object old o ≡ graph_of_object new o
graph_kept old new o keeps named =
    ap (λ (failed : Option GraphError). option_map_or Err failed (Ok (graph_of_parts old (trimmed o)))) (same_check old new o)
    ∙ ap (λ (g : LinkGraph). option_map_or Err (first_failed (graph_of_parts new (trimmed o)) o) (Ok g)) (parts_kept old new o keeps named)

named_later : (old new : List (List ℕ)) (symbols : List Symbol) → KeepsNumbers old new → AreNamed old symbols → AreNamed new symbols
named_later old new symbols keeps named = λ k d lt global. kept old new _ keeps (named k d lt global)

-- an object by a table is one by a later table
pub object_kept : (old new : List (List ℕ)) (bytes : List ℕ) (g : LinkGraph) → KeepsNumbers old new → IsObject old bytes g → IsObject new bytes g
object_kept old new bytes g keeps o = record {
  object = o.object;
  read = o.read;
  made = sym (graph_kept old new o.object keeps o.named) ∙ o.made;
  named = named_later old new o.object.symbols keeps o.named;
}

-- ---- refusals

refused_of : (failed : Option GraphError) (made : LinkGraph) (e : GraphError) → option_map_or Err failed (Ok made) ≡ Err e → failed ≡ Some e
refused_of None made e h = absurd cc
refused_of (Some x) made e h = cc

-- an object that has no graph by one table has none by any other, for the same reason
pub same_refusal : (old new : List (List ℕ)) (o : ElfObject) (e : GraphError) → graph_of_object old o ≡ Err e → graph_of_object new o ≡ Err e
same_refusal old new o e h =
    ap (λ (failed : Option GraphError). option_map_or Err failed (Ok (graph_of_parts new (trimmed o))))
    (sym (same_check old new o) ∙ refused_of (first_failed (graph_of_parts old (trimmed o)) o) (graph_of_parts old (trimmed o)) e h)
