-- The checks of a graph are those of its parts.
use Rattle.std.proofs.Common.{◌≡◌, ℕ, zero, suc, ◌+◌, ◌<◌, ◌≤◌, Bool, true, false, cond, not, ◌&&◌, List, [], ◌∷◌, length, map, get_or, Option, Some, None, Result, Ok, Err, refl, sym, ap, ◌∙◌, inl, inr, arith}
use Rattle.std.specs.Prelude.{find, is_none, slice_get}
use Rattle.std.specs.List.{list_any}
use Rattle.std.proofs.lemmas.Bool.{cases_Bool}
use Rattle.std.proofs.lemmas.List.{length-map}
use Rattle.elf_read.specs.declared.object.ElfObject.{ElfObject}
use Rattle.elf_read.specs.declared.object.Reloc.{Reloc}
use Rattle.elf_read.specs.declared.object.Section.{Section}
use Rattle.elf_read.specs.declared.object.Symbol.{Symbol}
use Rattle.link_model.specs.declared.graph.Block.{Block}
use Rattle.link_model.specs.declared.graph.Edge.{Edge}
use Rattle.link_model.specs.declared.graph.GPlace.{GPlace}
use Rattle.link_model.specs.declared.graph.GPlace.TheVariants.{In, Abs, External}
use Rattle.link_model.specs.declared.graph.GSym.{GSym}
use Rattle.link_model.specs.declared.graph.LinkGraph.{LinkGraph}
use Rattle.link_model.specs.Image.{at_or, is_upper, is_at, is_paired}
use Rattle.link_graph.specs.Object.{blocks_of, graph_symbols, graph_of_parts, graph_place, is_common}
use Rattle.link_graph.specs.Padding.{trimmed, trimmed_section}
use Rattle.link_graph.specs.Checks.{first_error, reloc_place, pair_error, error_among, first_failed, graph_of_object, Makes, is_zero, is_in_block}
use Rattle.link_graph.specs.Parts.{graph_places, place_error, label_error, failed_check, Refuses, AreUppers, is_labelled, is_upper_at, trimmed_places, trimmed_edges}
use Rattle.link_graph.specs.declared.error.GraphError.{GraphError}
use Rattle.link_graph.specs.declared.error.GraphError.TheVariants.{UnknownReloc, RelocOutside, TlsOrIfunc, BadPair, NeedsAlign, TooMany, NoMemory}
use Rattle.link_graph.specs.declared.pairs.Label.{Label}

places-graph_symbols : (names : List (List ℕ)) (common : ℕ) (ss : List Symbol) → map (λ (x : GSym). x.place) (graph_symbols names common ss) ≡ graph_places common ss
places-graph_symbols names common [] = refl
places-graph_symbols names common (s ∷ ss) = ap (λ (ps : List GPlace). graph_place common s s.place ∷ ps) (places-graph_symbols names (cond (is_common s.place) (common + 1) common) ss)

pub length-graph_symbols : (names : List (List ℕ)) (common : ℕ) (ss : List Symbol) → length (graph_symbols names common ss) ≡ length ss
length-graph_symbols names common [] = refl
length-graph_symbols names common (s ∷ ss) = ap suc (length-graph_symbols names (cond (is_common s.place) (common + 1) common) ss)

pair_errors : (g : LinkGraph) (places : List GPlace) → map (λ (x : GSym). x.place) g.symbols ≡ places → (ss : List Section) → error_among (pair_error g) 0 ss ≡ error_among (place_error places g.edges) 0 ss
pair_errors g places h ss = rw (← h) refl

places_trimmed : (names : List (List ℕ)) (o : ElfObject) → map (λ (x : GSym). x.place) (graph_of_parts names (trimmed o)).symbols ≡ trimmed_places o
places_trimmed names o =
    places-graph_symbols names (length (trimmed o).sections) (trimmed o).symbols
    ∙ ap (λ (n : ℕ). graph_places n (trimmed o).symbols) (length-map o.sections trimmed_section)

pub failed_check-is : (names : List (List ℕ)) (o : ElfObject) → first_failed (graph_of_parts names (trimmed o)) o ≡ failed_check o
failed_check-is names o = rw (pair_errors (graph_of_parts names (trimmed o)) (trimmed_places o) (places_trimmed names o) o.sections) refl

-- the answer where a check fails, and where none does
pub makes_refusal : (names : List (List ℕ)) (o : ElfObject) (why : GraphError) → Refuses why (failed_check o) → Makes (Err why) (graph_of_object names o)
makes_refusal names o NoMemory h = tt
makes_refusal names o TooMany h = rw (failed_check-is names o, h) refl
makes_refusal names o (UnknownReloc kind place) h = rw (failed_check-is names o, h) refl
makes_refusal names o (RelocOutside place) h = rw (failed_check-is names o, h) refl
makes_refusal names o (TlsOrIfunc s) h = rw (failed_check-is names o, h) refl
makes_refusal names o (BadPair place) h = rw (failed_check-is names o, h) refl
makes_refusal names o (NeedsAlign place) h = rw (failed_check-is names o, h) refl

pub makes_graph : (names : List (List ℕ)) (o : ElfObject) (g : LinkGraph) → failed_check o ≡ None → g ≡ graph_of_parts names (trimmed o) → Makes (Ok g) (graph_of_object names o)
makes_graph names o g none is = rw (failed_check-is names o, none, is) refl

pub refuses_it : (why : GraphError) (refusal : Option GraphError) → refusal ≡ Some why → Refuses why refusal
refuses_it NoMemory refusal h = tt
refuses_it TooMany refusal h = h
refuses_it (UnknownReloc kind place) refusal h = h
refuses_it (RelocOutside place) refusal h = h
refuses_it (TlsOrIfunc s) refusal h = h
refuses_it (BadPair place) refusal h = h
refuses_it (NeedsAlign place) refusal h = h

-- the element of a number
pub at_or-some : {X : Type 0} (other : X) (xs : List X) (k : ℕ) (x : X) → slice_get xs k ≡ Some x → x ≡ at_or other xs k
at_or-some other [] k x h = absurd cc
at_or-some other (y ∷ ys) zero x h = cc
at_or-some other (y ∷ ys) (suc k) x h = at_or-some other ys k x h

pub at_or-none : {X : Type 0} (other : X) (xs : List X) (k : ℕ) → slice_get xs k ≡ None → other ≡ at_or other xs k
at_or-none other [] k h = refl
at_or-none other (y ∷ ys) zero h = absurd cc
at_or-none other (y ∷ ys) (suc k) h = at_or-none other ys k h

pub at_or-within : {X : Type 0} (other : X) (xs : List X) (k : ℕ) (d : X) → k < length xs → at_or other xs k ≡ get_or xs k d
at_or-within other [] k d lt = absurd (omega arith)
at_or-within other (y ∷ ys) zero d lt = refl
at_or-within other (y ∷ ys) (suc k) d lt = at_or-within other ys k d (omega arith)

pub at_or-past : {X : Type 0} (other : X) (xs : List X) (k : ℕ) → length xs ≤ k → at_or other xs k ≡ other
at_or-past other [] k le = refl
at_or-past other (y ∷ ys) zero le = absurd (omega arith)
at_or-past other (y ∷ ys) (suc k) le = at_or-past other ys k (omega arith)

-- whether something is found
is_none-find : {X : Type 0} (p : X → Bool) (xs : List X) → not (is_none (find p xs)) ≡ list_any p xs
is_none-find p [] = refl
is_none-find p (x ∷ xs) = elim (cases_Bool (p x)) [ inl t ↦ rw t refl | inr f ↦ rw f (is_none-find p xs) ]

labelled : (labels : List Label) (edges : List Edge) → AreUppers labels edges → (place : GPlace) → is_labelled labels place ≡ (is_in_block place && not (is_none (find (λ (h : Edge). is_upper h.kind && is_at place h) edges)))
labelled labels edges are (In block offset) = are block offset ∙ sym (is_none-find (is_upper_at block offset) edges)
labelled labels edges are (Abs a) = refl
labelled labels edges are (External weak) = refl

and_parts : (a b c : Bool) → ((a && b) && c) ≡ (a && (b && c))
and_parts true b c = refl
and_parts false b c = refl

one : (labels : List Label) (places : List GPlace) (edges : List Edge) (block : ℕ) (r : Reloc) → AreUppers labels edges → label_error labels places block r ≡ place_error places edges block r
one labels places edges block r are =
    let place = at_or (Abs 0) places r.symbol in
    let test = is_zero r.addend in
    ap (λ (b : Bool). cond (is_paired r.kind && not b) (Some (BadPair (reloc_place block r))) None)
    (ap (λ (b : Bool). test && b) (labelled labels edges are place) ∙ sym (and_parts test (is_in_block place) (not (is_none (find (λ (h : Edge). is_upper h.kind && is_at place h) edges)))))

label_errors_in : (labels : List Label) (places : List GPlace) (edges : List Edge) (block : ℕ) (rs : List Reloc) → AreUppers labels edges → first_error (label_error labels places block) rs ≡ first_error (place_error places edges block) rs
label_errors_in labels places edges block [] are = refl
label_errors_in labels places edges block (r ∷ rs) are = rw (one labels places edges block r are, label_errors_in labels places edges block rs are) refl

pub label_errors : (labels : List Label) (places : List GPlace) (edges : List Edge) (block : ℕ) (ss : List Section) → AreUppers labels edges → error_among (label_error labels places) block ss ≡ error_among (place_error places edges) block ss
label_errors labels places edges block [] are = refl
label_errors labels places edges block (s ∷ ss) are = rw (label_errors_in labels places edges block s.relocs are, label_errors labels places edges (block + 1) ss are) refl

pub makes_error : (names : List (List ℕ)) (o : ElfObject) (why : GraphError) (result : Result LinkGraph GraphError) → result ≡ Err why → Refuses why (failed_check o) → Makes result (graph_of_object names o)
makes_error names o why result is h = rw is (makes_refusal names o why h)

pub graph_is : (names : List (List ℕ)) (o : ElfObject) (bs : List Block) (ss : List GSym) (es : List Edge) → bs ≡ blocks_of (trimmed o) → ss ≡ graph_symbols names (length o.sections) (trimmed o).symbols → es ≡ trimmed_edges 0 o.sections → record { blocks = bs; symbols = ss; edges = es } ≡ graph_of_parts names (trimmed o)
graph_is names o bs ss es b s e = rw (b, s, e, ← length-map o.sections trimmed_section) refl
