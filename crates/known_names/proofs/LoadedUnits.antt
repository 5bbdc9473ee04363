-- The names that the units of files offer and look up are names of their table.
use Rattle.std.proofs.Common.{◌≡◌, ℕ, zero, suc, ◌+◌, ◌<◌, Bool, true, false, cond, List, [], ◌∷◌, length, filter, Option, Some, None, unwrap_or, refl, sym, ap, ◌∙◌, subst, arith, inl, inr}
use Rattle.std.specs.Prelude.{option_map, slice_get}
use Rattle.std.specs.List.{All, position_from}
use Rattle.std.specs.Str.{bytes_eq}
use Rattle.std.proofs.lemmas.Bool.{cases_Bool}
use Rattle.std.proofs.lemmas.List.Elements.{All-cons, All-filter, All-head, All-map, All-nil, All-tail}
use Rattle.std.proofs.lemmas.Option.{none-some, same_Some, slice_get-get_or, slice_get_within}
use Rattle.list_laws.proofs.Each.{all_mapped}
use Rattle.orc_ids.specs.declared.flags.SymFlags.{SymFlags}
use Rattle.orc_ids.specs.declared.ids.NameId.{NameId}
use Rattle.orc_ids.specs.declared.ids.UnitName.{UnitName}
use Rattle.orc_ids.specs.declared.ids.UnitName.TheVariants.{Object}
use Rattle.orc_ids.specs.declared.lookup.Wanted.{Wanted}
use Rattle.elf_read.specs.declared.object.Symbol.{Symbol}
use Rattle.link_graph.specs.Checks.{first_failed}
use Rattle.link_graph.specs.Object.{graph_of_parts, graph_symbol, graph_symbols, is_common, is_global, name_number}
use Rattle.link_graph.specs.Padding.{trimmed}
use Rattle.link_model.specs.Graph.{external_symbols, is_offered}
use Rattle.link_model.specs.Image.{at_or}
use Rattle.link_model.specs.Offers.{name_of, no_symbol, wanted_of}
use Rattle.link_model.specs.declared.graph.GSym.{GSym}
use Rattle.link_model.specs.declared.graph.LinkGraph.{LinkGraph}
use Rattle.closure_laws.proofs.Declared.{row_below}
use Rattle.session_model.specs.Meaning.{Meaning}
use Rattle.session_units.specs.Meaning.{graph_meaning}
use Rattle.journal_text.specs.Parts.{IsGiven}
use Rattle.known_names.specs.Laws.{HasKnownNames}
use Rattle.object_files.specs.Files.{IsObject}
use Rattle.object_files.proofs.SymbolValues.{made_of}
use Rattle.known_names.specs.SpokenLaws.{LoadedUnitsAreKnown}

-- a place in a table is below its length
place_below : (test : List ℕ → Bool) (i k : ℕ) (names : List (List ℕ)) → position_from test i names ≡ Some k → k < i + length names
place_below test i k [] e = absurd (none-some k e)
place_below test i k (x ∷ xs) e = elim (cases_Bool (test x)) [
  | inl t ↦ omega (arith, same_Some i k (sym (ap (λ b. cond b (Some i) (position_from test (i + 1) xs)) t) ∙ e))
  | inr f ↦ omega (arith, place_below test (i + 1) k xs (sym (ap (λ b. cond b (Some i) (position_from test (i + 1) xs)) f) ∙ e))
]

-- The names of a graph: those that aren't in the table are number 0, which it has

abbrev IsNamed : List (List ℕ) → GSym → Type 0
IsNamed names s = IsGiven names (name_of s)

number_given : (names : List (List ℕ)) (o : Option ℕ) → 0 < length names → ((k : ℕ) → o ≡ Some k → k < length names) → IsGiven names (unwrap_or (option_map (λ (k : ℕ). record { 0 = k }) o) (record { 0 = 0 }))
number_given names None some below = some
number_given names (Some k) some below = below k refl

either_given : (names : List (List ℕ)) (test : Bool) (o : Option NameId) → 0 < length names → IsGiven names (unwrap_or o (record { 0 = 0 })) → IsGiven names (unwrap_or (cond test o None) (record { 0 = 0 }))
either_given names true o some given = given
either_given names false o some given = some

symbol_named : (names : List (List ℕ)) (common : ℕ) (s : Symbol) → 0 < length names → IsNamed names (graph_symbol names common s)
symbol_named names common s some = either_given names (is_global s) (name_number names s.name) some
    (number_given names (position_from (bytes_eq s.name) 0 names) some (λ k e. omega (arith, place_below (bytes_eq s.name) 0 k names e)))

symbols_named : (names : List (List ℕ)) (common : ℕ) (ss : List Symbol) → 0 < length names → All (IsNamed names) (graph_symbols names common ss)
symbols_named names common [] some = All-nil (IsNamed names)
symbols_named names common (s ∷ ss) some =
    let rest = cond (is_common s.place) (common + 1) common in
    All-cons (IsNamed names) (graph_symbol names common s) (graph_symbols names rest ss) (symbol_named names common s some) (symbols_named names rest ss some)

one_or : {X : Type 0} (P : X → Type 0) (other : X) (xs : List X) (k : ℕ) → P other → All P xs → P (at_or other xs k)
one_or P other [] k o a = o
one_or P other (x ∷ xs) zero o a = All-head P x xs a
one_or P other (x ∷ xs) (suc k) o a = one_or P other xs k o (All-tail P x xs a)

graph_known : (names : List (List ℕ)) (name : UnitName) (g : LinkGraph) → 0 < length names → All (IsNamed names) g.symbols → HasKnownNames names (graph_meaning name g)
graph_known names name g some named = record {
  offers = All-map (λ (o : NameId × SymFlags). IsGiven names o.0) (λ (s : GSym). (name_of s, s.flags)) (filter is_offered g.symbols) (All-filter is_offered (IsNamed names) g.symbols named);
  externals = λ live. all_mapped (λ (w : Wanted). IsGiven names w.name) (λ s. wanted_of (at_or no_symbol g.symbols s)) (λ s. one_or (IsNamed names) no_symbol g.symbols s some named) (external_symbols g live);
}

object_known : (names : List (List ℕ)) (name : UnitName) (bytes : List ℕ) (g : LinkGraph) → 0 < length names → IsObject names bytes g → HasKnownNames names (graph_meaning name g)
object_known names name bytes g some is =
    let parts = graph_of_parts names (trimmed is.object) in
    graph_known names name g some (subst (λ (x : LinkGraph). All (IsNamed names) x.symbols) (made_of (first_failed parts is.object) parts g is.made) (symbols_named names (length (trimmed is.object).sections) (trimmed is.object).symbols some))

-- The units of the files

pub loaded_known : LoadedUnitsAreKnown
loaded_known told files names units loaded some = λ k d l. file_known k _ (slice_get-get_or units k d l)
  where
    file_known : (k : ℕ) (u : Meaning) → slice_get units k ≡ Some u → HasKnownNames names u
    file_known k u e =
        let below = slice_get_within units k u e in
        let g = row_below loaded.graphs k (omega (arith, below, loaded.count, loaded.whole)) in
        let b = row_below loaded.contents k (omega (arith, below, loaded.count, loaded.all)) in
        subst (HasKnownNames names) (sym (loaded.are k u g.0 e g.1)) (object_known names (Object k) b.0 g.0 some (loaded.objects k b.0 g.0 b.1 g.1))
