-- What every graph of an object keeps: its parts fit each other, they are few enough, and the names
-- that it offers differ.
use Rattle.std.proofs.Common.{◌≡◌, ◌≢◌, ℕ, zero, suc, ◌+◌, ◌-◌, ◌<◌, ◌≤◌, Bool, true, false, cond, not, ◌||◌, ◌==◌, nat_lt, List, [], ◌∷◌, ◌++◌, length, map, get_or, Option, Some, None, refl, sym, ap, subst, ◌∙◌, inl, inr, arith}
use Rattle.std.specs.Prelude.{if◌then◌else◌, slice_get, sum_by, Contains, IsTrue, IsSome, is_some, is_none, option_map, ℤ, pos, negsuc}
use Rattle.std.specs.Option.{option_map_or}
use Rattle.std.specs.List.{All, AllPairs, filter, position_from}
use Rattle.std.specs.Str.{bytes_eq}
use Rattle.std.specs.Cmp.Lexicographic.{nat_list_eq_equiv, same_text}
use Rattle.std.proofs.lemmas.Bool.{cases_Bool, eqb-true, ltb-false, false≢true, true≢false, and_parts, or_parts, not-true}
use Rattle.std.proofs.lemmas.List.{length-append, length-map}
use Rattle.std.proofs.lemmas.List.Elements.{All-nil, All-cons, All-head, All-tail, All-map, All-append, All-weaker}
use Rattle.std.proofs.lemmas.List.Sums.{sum_by-append, sum_by-cons}
use Rattle.std.proofs.lemmas.Option.{same_Some}
use Rattle.link_model.proofs.Layouts.{align_positive}
use Rattle.orc_ids.specs.declared.ids.NameId.{NameId}
use Rattle.elf_read.specs.Symbols.{symbol_zero}
use Rattle.elf_read.specs.declared.object.ElfObject.{ElfObject}
use Rattle.elf_read.specs.declared.object.Reloc.{Reloc}
use Rattle.elf_read.specs.declared.object.Section.{Section}
use Rattle.elf_read.specs.declared.object.SymPlace.{SymPlace}
use Rattle.elf_read.specs.declared.object.SymPlace.TheVariants as place
use Rattle.elf_read.specs.declared.object.Symbol.{Symbol}
use Rattle.link_model.specs.Graph.{is_defined, is_offered}
use Rattle.link_model.specs.Image.{at_or}
use Rattle.link_model.specs.Kinds.{row_of, rule_of, known}
use Rattle.link_model.specs.Sound.{sizes, EdgeFits, PlaceFits, Sound, IsAlignment, IsSized, OffersDiffer, MAX_BLOCKS, MAX_SYMBOLS, MAX_EDGES, MAX_BYTES}
use Rattle.link_model.specs.declared.graph.Block.{Block}
use Rattle.link_model.specs.declared.graph.Edge.{Edge}
use Rattle.link_model.specs.declared.graph.GSym.{GSym}
use Rattle.link_model.specs.declared.graph.LinkGraph.{LinkGraph}
use Rattle.link_model.specs.declared.kinds.Rule.{Rule}
use Rattle.link_graph.specs.Object.{is_local, is_common, is_passed, is_nobits, is_mark, is_global, section_block, common_block, common_symbols, blocks_of, graph_place, graph_symbol, graph_symbols, name_number, edge_of, section_edges, graph_of_parts}
use Rattle.link_graph.specs.Padding.{ALIGN, is_align, padding, cut_of, cuts_of, deleted, all_cuts, trimmed_reloc, trimmed_by, trimmed_section, trimmed_symbol, trimmed}
use Rattle.link_graph.specs.Checks.{is_too_large, edge_count, byte_count, or_else, symbol_error, reloc_place, is_passed_symbol, meets_cut, reloc_error, end_after, table_error, section_error, relocs_error, error_among}
use Rattle.link_graph.specs.Parts.{InTurn, failed_check, place_error, trimmed_places, trimmed_edges}
use Rattle.link_graph.specs.declared.cuts.Cut.{Cut}
use Rattle.link_graph.specs.Read.{IsRead, AreNamed}
use Rattle.link_graph.specs.declared.error.GraphError.{GraphError}
use Rattle.link_graph.specs.declared.error.GraphError.TheVariants.{RelocOutside, NeedsAlign, TooMany}
use Rattle.link_graph.proofs.Whole.{length-graph_symbols}
use Rattle.link_graph.proofs.Deletions.{is_cut, cuts_in_turn, moved_rises, moved_whole}
use Rattle.link_graph.proofs.TrimmedFacts.{trimmed_facts, commons_counted, bytes_counted, edges_counted}
use Rattle.link_graph.proofs.ReadFacts.{PlaceInside, NamesFew, Facts, facts}

-- ---- the checks that were passed

or_else-parts : {X : Type 0} (a b : Option X) → or_else a b ≡ None → (a ≡ None) × (b ≡ None)
or_else-parts None b h = (refl, h)
or_else-parts (Some x) b h = absurd cc

if-none : {X : Type 0} (test : Bool) (x : X) → (if test then Some x else None) ≡ None → test ≡ false
if-none true x h = absurd cc
if-none false x h = refl

record Passed (o : ElfObject) : Type 0 where
  small : is_too_large o ≡ false
  relocs : relocs_error o.symbols 0 o.sections ≡ None

passed_all : (o : ElfObject) → failed_check o ≡ None → Passed o
passed_all o h =
    let pairs : Option GraphError = error_among (place_error (trimmed_places o) (trimmed_edges 0 o.sections)) 0 o.sections in
    let relocs : Option GraphError = or_else (relocs_error o.symbols 0 o.sections) pairs in
    let symbols : Option GraphError = or_else (symbol_error 0 o.symbols) relocs in
    let first = or_else-parts (if is_too_large o then Some TooMany else None) symbols h in
    let second = or_else-parts (symbol_error 0 o.symbols) relocs first.1 in
    record { small = if-none (is_too_large o) TooMany first.0; relocs = (or_else-parts (relocs_error o.symbols 0 o.sections) pairs second.1).0 }

-- ---- blocks

common_is : (sections : List Section) (s : Symbol) (p : SymPlace) → is_common p ≡ true → PlaceInside sections s.value p → IsAlignment s.value
common_is sections s place.Common is h = h
common_is sections s place.Undef is h = absurd (false≢true is)
common_is sections s place.Abs is h = absurd (false≢true is)
common_is sections s place.Passed is h = absurd (false≢true is)
common_is sections s (place.In k) is h = absurd (false≢true is)

Inside : List Section → Symbol → Type 0
Inside sections s = PlaceInside sections s.value s.place

commons_aligned : (sections : List Section) (ss : List Symbol) → All (λ (s : Symbol). PlaceInside sections s.value s.place) ss → All (λ (s : Symbol). IsAlignment s.value) (common_symbols ss)
commons_aligned sections [] h = All-nil (λ (s : Symbol). IsAlignment s.value)
commons_aligned sections (s ∷ ss) h =
    let rest = commons_aligned sections ss (All-tail (λ (s : Symbol). PlaceInside sections s.value s.place) s ss h) in
    either (is_common s.place) (λ is. common_is sections s s.place is (All-head (λ (s : Symbol). PlaceInside sections s.value s.place) s ss h)) rest
  where
    either : (b : Bool) → (b ≡ true → IsAlignment s.value) → All (λ (s : Symbol). IsAlignment s.value) (common_symbols ss) → All (λ (s : Symbol). IsAlignment s.value) (cond b (s ∷ common_symbols ss) (common_symbols ss))
    either true here rest = All-cons (λ (s : Symbol). IsAlignment s.value) s (common_symbols ss) (here refl) rest
    either false here rest = rest

aligned_blocks : (o : ElfObject) → Facts o → All (λ (b : Block). IsAlignment b.align) (blocks_of o)
aligned_blocks o h =
    All-append (λ (b : Block). IsAlignment b.align) (map section_block o.sections) (map common_block (common_symbols o.symbols))
    (All-map (λ (b : Block). IsAlignment b.align) section_block o.sections h.aligns)
    (All-map (λ (b : Block). IsAlignment b.align) common_block (common_symbols o.symbols) (commons_aligned o.sections o.symbols h.places))

short_blocks : (o : ElfObject) → Facts o → All (λ (b : Block). length b.bytes ≤ b.size) (blocks_of o)
short_blocks o h =
    All-append (λ (b : Block). length b.bytes ≤ b.size) (map section_block o.sections) (map common_block (common_symbols o.symbols))
    (All-map (λ (b : Block). length b.bytes ≤ b.size) section_block o.sections h.bytes)
    (All-map (λ (b : Block). length b.bytes ≤ b.size) common_block (common_symbols o.symbols) (λ k d lt. omega arith))

-- the first blocks are the sections
section_size : (ss : List Section) (bs : List Block) (k : ℕ) → k < length ss → at_or 0 (map (λ (b : Block). b.size) (map section_block ss ++ bs)) k ≡ at_or 0 (map (λ (s : Section). s.size) ss) k
section_size [] bs k lt = absurd (omega arith)
section_size (s ∷ ss) bs zero lt = refl
section_size (s ∷ ss) bs (suc k) lt = section_size ss bs k (omega arith)

count_blocks : (o : ElfObject) → length (blocks_of o) ≡ length o.sections + length (common_symbols o.symbols)
count_blocks o =
    length-append (map section_block o.sections) (map common_block (common_symbols o.symbols))
    ∙ ap (λ (n : ℕ). n + length (map common_block (common_symbols o.symbols))) (length-map o.sections section_block)
    ∙ ap (λ (n : ℕ). length o.sections + n) (length-map (common_symbols o.symbols) common_block)

-- ---- symbols

place_fits : (g : LinkGraph) (sections : List Section) (bs : List Block) (common : ℕ) (s : Symbol) (p : SymPlace) → g.blocks ≡ map section_block sections ++ bs → (is_common p ≡ true → common < length g.blocks) → PlaceInside sections s.value p → PlaceFits g (graph_place common s p)
place_fits g sections bs common s (place.In k) e few h =
    let size : at_or 0 (sizes g) k ≡ at_or 0 (map (λ (s : Section). s.size) sections) k = ap (λ (xs : List Block). at_or 0 (map (λ (b : Block). b.size) xs) k) e ∙ section_size sections bs k h.0 in
    let count : length g.blocks ≡ length sections + length bs = ap (λ (xs : List Block). length xs) e ∙ length-append (map section_block sections) bs ∙ ap (λ (n : ℕ). n + length bs) (length-map sections section_block) in
    (omega (arith, count, h.0), omega (arith, size, h.1))
place_fits g sections bs common s place.Common e few h = (few refl, omega arith)
place_fits g sections bs common s place.Undef e few h = tt
place_fits g sections bs common s place.Abs e few h = tt
place_fits g sections bs common s place.Passed e few h = tt

abbrev one_if : Bool → ℕ
one_if b = cond b 1 0

count_common : (b : Bool) (s : Symbol) (ss : List Symbol) → length (cond b (s ∷ ss) ss) ≡ one_if b + length ss
count_common true s ss = omega arith
count_common false s ss = omega arith

next_common : (b : Bool) (common : ℕ) → cond b (common + 1) common ≡ common + one_if b
next_common true common = omega arith
next_common false common = omega arith

symbols_fit : (names : List (List ℕ)) (g : LinkGraph) (sections : List Section) (bs : List Block) (common : ℕ) (ss : List Symbol) → g.blocks ≡ map section_block sections ++ bs → common + length (common_symbols ss) ≤ length g.blocks → All (λ (s : Symbol). PlaceInside sections s.value s.place) ss → All (λ (s : GSym). PlaceFits g s.place) (graph_symbols names common ss)
symbols_fit names g sections bs common [] e few h = All-nil (λ (s : GSym). PlaceFits g s.place)
symbols_fit names g sections bs common (s ∷ ss) e few h =
    let count = count_common (is_common s.place) s (common_symbols ss) in
    let next = next_common (is_common s.place) common in
    All-cons (λ (s : GSym). PlaceFits g s.place) (graph_symbol names common s) (graph_symbols names (cond (is_common s.place) (common + 1) common) ss)
    (place_fits g sections bs common s s.place e (λ is. let one = ap one_if is in omega (arith, one, count, few)) (All-head (λ (s : Symbol). PlaceInside sections s.value s.place) s ss h))
    (symbols_fit names g sections bs (cond (is_common s.place) (common + 1) common) ss e (omega (arith, next, count, few)) (All-tail (λ (s : Symbol). PlaceInside sections s.value s.place) s ss h))

-- ---- edges

-- an edge of a section, whose number is counted from `first`
record FitsAmong (first n : ℕ) (ss : List Section) (e : Edge) : Type 0 where
  low : first ≤ e.block
  high : e.block < first + length ss
  inside : e.offset + (rule_of e.kind).width ≤ at_or 0 (map (λ (s : Section). s.size) ss) (e.block - first)
  known : IsSome (row_of e.kind)
  target : e.target < n

record FitsSection (s : Section) (r : Reloc) : Type 0 where
  inside : r.at + (rule_of r.kind).width ≤ s.size
  known : IsSome (row_of r.kind)

-- what the tests of a relocation that is no mark say
record Met (outside is_align met over : Bool) : Type 0 where
  align : is_align ≡ true → met ≡ true
  other : is_align ≡ false → over ≡ false

passes_tests : (outside is_align met over : Bool) (x y z : GraphError) → (if outside then Some x else (if is_align then (if not met then Some y else None) else (if over then Some z else None))) ≡ None → Met outside is_align met over
passes_tests true is_align met over x y z h = absurd cc
passes_tests false true true over x y z h = record { align = λ t. refl; other = λ f. absurd (true≢false f) }
passes_tests false true false over x y z h = absurd cc
passes_tests false false met true x y z h = absurd cc
passes_tests false false met false x y z h = record { align = λ t. absurd (false≢true t); other = λ f. refl }

-- an ALIGN that has a cut ends in its section
cut_inside : (size end before at : ℕ) (addend : ℤ) (cut : Option Cut) → cut_of size end before at addend ≡ cut → not (is_none cut) ≡ true → at + padding addend ≤ size
cut_inside size end before at (negsuc k) cut is some = let none : cut ≡ None = sym is in absurd (false≢true (sym (ap (λ (c : Option Cut). not (is_none c)) none) ∙ some))
cut_inside size end before at (pos a) None is some = absurd (false≢true some)
cut_inside size end before at (pos a) (Some c) is some = (is_cut size end before at a c is).inside

align_width : (kind : ℕ) → (kind == ALIGN) ≡ true → (rule_of kind).width ≡ 0
unfolding row_of
align_width kind is = ap (λ (k : ℕ). (rule_of k).width) (eqb-true kind ALIGN is)

align_known : (r : Reloc) → is_align r ≡ true → IsSome (row_of r.kind)
unfolding row_of
align_known r is = ap (λ (k : ℕ). is_some (row_of k)) (eqb-true r.kind ALIGN is)

align_edge : (r : Reloc) → is_align r ≡ true → is_mark r ≡ false
align_edge r is = ap (λ (k : ℕ). k == 0 || k == 51) (eqb-true r.kind ALIGN is)

twice_not : (b : Bool) → b ≡ not (not b)
twice_not true = refl
twice_not false = refl

row_tests : (symbols : List Symbol) (block : ℕ) (s : Section) (cuts : List Cut) (end : ℕ) (r : Reloc) (rule : Rule) → row_of r.kind ≡ Some rule → is_mark r ≡ false → reloc_error symbols block s cuts end r ≡ None →
    Met (is_nobits s || is_passed_symbol symbols r.symbol) (is_align r) (not (is_none (cut_of s.size end (deleted cuts r.at) r.at r.addend))) (nat_lt s.size (r.at + rule.width) || meets_cut cuts r.at rule.width)
row_tests symbols block s cuts end r rule row edge h =
    let place = reloc_place block r in
    let none = is_none (cut_of s.size end (deleted cuts r.at) r.at r.addend) in
    passes_tests (is_nobits s || is_passed_symbol symbols r.symbol) (is_align r) (not none) (nat_lt s.size (r.at + rule.width) || meets_cut cuts r.at rule.width) (RelocOutside place) (NeedsAlign place) (RelocOutside place)
    (subst
    (λ (b : Bool). (if is_nobits s || is_passed_symbol symbols r.symbol then Some (RelocOutside place) else (if is_align r then (if b then Some (NeedsAlign place) else None) else (if nat_lt s.size (r.at + rule.width) || meets_cut cuts r.at rule.width then Some (RelocOutside place) else None))) ≡ None)
    (twice_not none)
    (rw (row, edge) at h))

-- the padding of an ALIGN that is passed lies in its section
pub align_inside : (symbols : List Symbol) (block : ℕ) (s : Section) (cuts : List Cut) (end : ℕ) (r : Reloc) → reloc_error symbols block s cuts end r ≡ None → is_align r ≡ true → r.at + padding r.addend ≤ s.size
align_inside symbols block s cuts end r h align = by_row (row_of r.kind) refl
  where
    by_row : (row : Option Rule) → row_of r.kind ≡ row → r.at + padding r.addend ≤ s.size
    by_row None is = absurd (false≢true (sym (ap is_some is) ∙ align_known r align))
    by_row (Some rule) is = cut_inside s.size end (deleted cuts r.at) r.at r.addend (cut_of s.size end (deleted cuts r.at) r.at r.addend) refl ((row_tests symbols block s cuts end r rule is (align_edge r align) h).align align)

row_fits : (symbols : List Symbol) (block : ℕ) (s : Section) (cuts : List Cut) (end : ℕ) (r : Reloc) (row : Option Rule) → InTurn 0 0 cuts → row_of r.kind ≡ row → is_mark r ≡ false → reloc_error symbols block s cuts end r ≡ None → FitsSection (trimmed_by cuts s) (trimmed_reloc cuts r)
row_fits symbols block s cuts end r None turn e edge h = let none = rw e at h in absurd cc
row_fits symbols block s cuts end r (Some rule) turn e edge h =
    let over = nat_lt s.size (r.at + rule.width) in
    let tests = row_tests symbols block s cuts end r rule e edge h in
    let is : rule_of r.kind ≡ rule = ap known e in
    record {
      inside = elim (cases_Bool (is_align r)) [
        | inl align ↦ (
            let within = align_inside symbols block s cuts end r h align in
            let rises = moved_rises cuts r.at s.size turn (omega arith) in
            omega (arith, rises, align_width r.kind align))
        | inr other ↦ (
            let parts = or_parts over (meets_cut cuts r.at rule.width) (tests.other other) in
            let width = ap (λ (x : Rule). x.width) is in
            let within = ltb-false s.size (r.at + rule.width) parts.0 in
            let whole = ltb-false (deleted cuts r.at) (deleted cuts (r.at + rule.width)) parts.1 in
            let stays = moved_whole cuts r.at rule.width s.size turn within whole in
            omega (arith, stays, width))
      ];
      known = ap is_some e;
    }

reloc_fits : (symbols : List Symbol) (block : ℕ) (s : Section) (cuts : List Cut) (end : ℕ) (r : Reloc) → InTurn 0 0 cuts → is_mark r ≡ false → reloc_error symbols block s cuts end r ≡ None → FitsSection (trimmed_by cuts s) (trimmed_reloc cuts r)
reloc_fits symbols block s cuts end r turn edge h = row_fits symbols block s cuts end r (row_of r.kind) turn refl edge h

edge_here : (block n : ℕ) (s : Section) (ss : List Section) (r : Reloc) → FitsSection s r → r.symbol < n → FitsAmong block n (s ∷ ss) (edge_of block r)
edge_here block n s ss r fits target = record {
  low = omega arith;
  high = omega arith;
  inside = (let first : block - block ≡ 0 = omega arith in rw first fits.inside);
  known = fits.known;
  target = target;
}

edge_later : (block n : ℕ) (s : Section) (ss : List Section) (e : Edge) → FitsAmong (block + 1) n ss e → FitsAmong block n (s ∷ ss) e
edge_later block n s ss e fits =
    let next : e.block - block ≡ suc (e.block - (block + 1)) = (let low = fits.low in omega (arith, low)) in
    record {
      low = (let low = fits.low in omega (arith, low));
      high = (let high = fits.high in omega (arith, high));
      inside = rw next fits.inside;
      known = fits.known;
      target = fits.target;
    }

edge_or : (P : Edge → Type 0) (f : Reloc → Edge) (mark : Bool) (r : Reloc) (rs : List Reloc) → (mark ≡ false → P (f r)) → All P (map f rs) → All P (map f (cond (not mark) (r ∷ rs) rs))
edge_or P f true r rs here rest = rest
edge_or P f false r rs here rest = All-cons P (f r) (map f rs) (here refl) rest

section_edges_fit : (symbols : List Symbol) (block n : ℕ) (s : Section) (ss : List Section) (cuts : List Cut) (end : ℕ) (rs : List Reloc) → InTurn 0 0 cuts → table_error symbols block s cuts end rs ≡ None → All (λ (r : Reloc). r.symbol < n) rs → All (FitsAmong block n (trimmed_by cuts s ∷ ss)) (map (edge_of block) (filter (λ (r : Reloc). not (is_mark r)) (map (trimmed_reloc cuts) rs)))
section_edges_fit symbols block n s ss cuts end [] turn none targets = All-nil (FitsAmong block n (trimmed_by cuts s ∷ ss))
section_edges_fit symbols block n s ss cuts end (r ∷ rs) turn none targets =
    let parts = or_else-parts (reloc_error symbols block s cuts end r) (table_error symbols block s cuts (end_after end r) rs) none in
    edge_or (FitsAmong block n (trimmed_by cuts s ∷ ss)) (edge_of block) (is_mark r) (trimmed_reloc cuts r) (filter (λ (x : Reloc). not (is_mark x)) (map (trimmed_reloc cuts) rs))
    (λ edge. edge_here block n (trimmed_by cuts s) ss (trimmed_reloc cuts r) (reloc_fits symbols block s cuts end r turn edge parts.0) (All-head (λ (x : Reloc). x.symbol < n) r rs targets))
    (section_edges_fit symbols block n s ss cuts (end_after end r) rs turn parts.1 (All-tail (λ (x : Reloc). x.symbol < n) r rs targets))

edges_fit : (symbols : List Symbol) (block n : ℕ) (ss : List Section) → relocs_error symbols block ss ≡ None → All (NamesFew n) ss → All (FitsAmong block n (map trimmed_section ss)) (trimmed_edges block ss)
edges_fit symbols block n [] none targets = All-nil (FitsAmong block n [])
edges_fit symbols block n (s ∷ ss) none targets =
    let parts = or_else-parts (section_error symbols block s) (relocs_error symbols (block + 1) ss) none in
    let later = map trimmed_section ss in
    All-append (FitsAmong block n (trimmed_section s ∷ later)) (section_edges block (trimmed_section s)) (trimmed_edges (block + 1) ss)
    (section_edges_fit symbols block n s later (cuts_of s) 0 s.relocs (cuts_in_turn s) parts.0 (All-head (NamesFew n) s ss targets))
    (All-weaker (FitsAmong (block + 1) n later) (FitsAmong block n (trimmed_section s ∷ later)) (edge_later block n (trimmed_section s) later) (trimmed_edges (block + 1) ss) (edges_fit symbols (block + 1) n ss parts.1 (All-tail (NamesFew n) s ss targets)))

edge_fits : (g : LinkGraph) (sections : List Section) (bs : List Block) (e : Edge) → g.blocks ≡ map section_block sections ++ bs → FitsAmong 0 (length g.symbols) sections e → EdgeFits g e
edge_fits g sections bs e is fits =
    let high = fits.high in
    let inside = fits.inside in
    let within : e.block < length sections = omega (arith, high) in
    let count : length g.blocks ≡ length sections + length bs = ap (λ (xs : List Block). length xs) is ∙ length-append (map section_block sections) bs ∙ ap (λ (n : ℕ). n + length bs) (length-map sections section_block) in
    let size : at_or 0 (sizes g) e.block ≡ at_or 0 (map (λ (s : Section). s.size) sections) e.block = ap (λ (xs : List Block). at_or 0 (map (λ (b : Block). b.size) xs) e.block) is ∙ section_size sections bs e.block within in
    let place : at_or 0 (map (λ (s : Section). s.size) sections) (e.block - 0) ≡ at_or 0 (map (λ (s : Section). s.size) sections) e.block = ap (at_or 0 (map (λ (s : Section). s.size) sections)) (omega arith) in
    record {
      block = omega (arith, count, within);
      inside = omega (arith, inside, place, size);
      known = fits.known;
      target = fits.target;
    }

-- ---- names

number_found : (names : List (List ℕ)) (text : List ℕ) (i k : ℕ) → k < length names → get_or names k text ≡ text → (n : ℕ) × (position_from (bytes_eq text) i names ≡ Some (i + n)) × (slice_get names n ≡ Some text)
number_found [] text i k lt e = absurd (omega arith)
number_found (x ∷ xs) text i zero lt e = (0, rw (e, nat_list_eq_equiv.refl text) (ap Some (omega arith)), ap Some e)
number_found (x ∷ xs) text i (suc k) lt e = elim (cases_Bool (bytes_eq text x)) [
  | inl t ↦ (0, rw t (ap Some (omega arith)), ap Some (sym (same_text text x (sym t))))
  | inr f ↦ (
      let rest = number_found xs text (i + 1) k (omega arith) e in
      let more : i + 1 + rest.0 ≡ i + suc rest.0 = omega arith in
      (suc rest.0, rw f (rest.1 ∙ ap Some more), rest.2))
]

record Numbered (names : List (List ℕ)) (text : List ℕ) : Type 0 where
  number : ℕ
  is : name_number names text ≡ Some (record { 0 = number })
  there : slice_get names number ≡ Some text

numbered : (names : List (List ℕ)) (text : List ℕ) → Contains names text → Numbered names text
numbered names text c =
    let found = number_found names text 0 c.0 c.1 c.2 in
    let first : 0 + found.0 ≡ found.0 = omega arith in
    record { number = found.0; is = ap (option_map (λ (k : ℕ). record { 0 = k })) (found.1 ∙ ap Some first); there = found.2 }

-- a symbol that is offered has its name's number
offered_number : (names : List (List ℕ)) (common : ℕ) (s : Symbol) → is_offered (graph_symbol names common s) ≡ true → (is_global s ≡ true) × ((graph_symbol names common s).name ≡ name_number names s.name)
offered_number names common s h =
    let global = (and_parts (is_global s) (is_defined (graph_place common s s.place)) h).0 in
    (global, rw global refl)

symbol_at : (names : List (List ℕ)) (common : ℕ) (ss : List Symbol) (k : ℕ) (d : GSym) (e : Symbol) → k < length (graph_symbols names common ss) → (c : ℕ) × (k < length ss) × (get_or (graph_symbols names common ss) k d ≡ graph_symbol names c (get_or ss k e))
symbol_at names common [] k d e lt = absurd (omega arith)
symbol_at names common (s ∷ ss) zero d e lt = (common, omega arith, refl)
symbol_at names common (s ∷ ss) (suc k) d e lt =
    let rest = symbol_at names (cond (is_common s.place) (common + 1) common) ss k d e (omega arith) in
    (rest.0, omega (arith, rest.1), rest.2)

local_not : (s : Symbol) → is_global s ≡ true → is_local s ≡ false
local_not s h = not-true (is_local s) (and_parts (not (is_local s)) (not (is_passed s.place)) h).0

names_there : (names : List (List ℕ)) (common : ℕ) (ss : List Symbol) → AreNamed names ss → All (λ (s : GSym). IsTrue (is_offered s) → IsSome s.name) (graph_symbols names common ss)
names_there names common ss named k d lt offered =
    let at = symbol_at names common ss k d symbol_zero lt in
    let s : Symbol = get_or ss k symbol_zero in
    let number = offered_number names at.0 s (subst (λ (x : GSym). is_offered x ≡ true) at.2 offered) in
    ap (λ (x : GSym). is_some x.name) at.2 ∙ ap is_some (number.1 ∙ (numbered names s.name (named k symbol_zero at.1 number.0)).is)

same_names : (names : List (List ℕ)) (s t : Symbol) → Numbered names s.name → Numbered names t.name → name_number names s.name ≡ name_number names t.name → s.name ≡ t.name
same_names names s t first second same =
    let equal : Some (record { 0 = first.number }) ≡ Some (record { 0 = second.number }) = sym first.is ∙ same ∙ second.is in
    let number : first.number ≡ second.number = ap (λ (o : Option NameId). option_map_or (λ (x : NameId). x.0) o 0) equal in
    same_Some s.name t.name (sym first.there ∙ ap (slice_get names) number ∙ second.there)

names_differ : (names : List (List ℕ)) (common : ℕ) (ss : List Symbol) → AreNamed names ss → AllPairs (λ (s t : Symbol). is_local s ≡ false → is_local t ≡ false → s.name ≢ t.name) ss → AllPairs (λ (s t : GSym). IsTrue (is_offered s) → IsTrue (is_offered t) → s.name ≢ t.name) (graph_symbols names common ss)
names_differ names common ss named apart i j d before lt offered offered' same =
    let first = symbol_at names common ss i d symbol_zero (omega arith) in
    let second = symbol_at names common ss j d symbol_zero lt in
    let s : Symbol = get_or ss i symbol_zero in
    let t : Symbol = get_or ss j symbol_zero in
    let one = offered_number names first.0 s (subst (λ (x : GSym). is_offered x ≡ true) first.2 offered) in
    let two = offered_number names second.0 t (subst (λ (x : GSym). is_offered x ≡ true) second.2 offered') in
    let numbers : name_number names s.name ≡ name_number names t.name = sym one.1 ∙ ap (λ (x : GSym). x.name) (sym first.2) ∙ same ∙ ap (λ (x : GSym). x.name) second.2 ∙ two.1 in
    apart i j symbol_zero before second.1 (local_not s one.0) (local_not t two.0)
    (same_names names s t (numbered names s.name (named i symbol_zero first.1 one.0)) (numbered names t.name (named j symbol_zero second.1 two.0)) numbers)

-- ---- the graph

pub graph_sound : (names : List (List ℕ)) (o : ElfObject) (g : LinkGraph) → IsRead o → failed_check o ≡ None → g ≡ graph_of_parts names (trimmed o) → Sound g
graph_sound names o g read none is =
    let read_facts = facts o read in
    let h = trimmed_facts o read_facts in
    let passed = passed_all o none in
    let sections = (trimmed o).sections in
    let ss = (trimmed o).symbols in
    let blocks : g.blocks ≡ blocks_of (trimmed o) = ap (λ (x : LinkGraph). x.blocks) is in
    let symbols : g.symbols ≡ graph_symbols names (length sections) ss = ap (λ (x : LinkGraph). x.symbols) is in
    let edges : g.edges ≡ trimmed_edges 0 o.sections = ap (λ (x : LinkGraph). x.edges) is in
    let commons : List Block = map common_block (common_symbols ss) in
    let count : length g.symbols ≡ length o.symbols = ap (λ (xs : List GSym). length xs) symbols ∙ length-graph_symbols names (length sections) ss ∙ length-map o.symbols (trimmed_symbol (all_cuts o.sections)) in
    let room : length sections + length (common_symbols ss) ≤ length g.blocks = omega (arith, ap (λ (xs : List Block). length xs) blocks, count_blocks (trimmed o)) in
    record {
      bytes = subst (All (λ (b : Block). length b.bytes ≤ b.size)) (sym blocks) (short_blocks (trimmed o) h);
      aligns = subst (All (λ (b : Block). 0 < b.align)) (sym blocks) (All-weaker (λ (b : Block). IsAlignment b.align) (λ (b : Block). 0 < b.align) (λ b is. align_positive b.align is) (blocks_of (trimmed o)) (aligned_blocks (trimmed o) h));
      symbols = subst (All (λ (s : GSym). PlaceFits g s.place)) (sym symbols) (symbols_fit names g sections commons (length sections) ss blocks room h.places);
      edges = subst (All (EdgeFits g)) (sym edges) (All-weaker (FitsAmong 0 (length g.symbols) sections) (EdgeFits g) (λ e fits. edge_fits g sections commons e blocks fits) (trimmed_edges 0 o.sections)
          (subst (λ (n : ℕ). All (FitsAmong 0 n sections) (trimmed_edges 0 o.sections)) (sym count) (edges_fit o.symbols 0 (length o.symbols) o.sections passed.relocs read_facts.targets)));
    }

-- the sizes of the blocks
sizes_of_sections : (ss : List Section) → sum_by (λ (b : Block). b.size) (map section_block ss) ≡ sum_by (λ (s : Section). s.size) ss
sizes_of_sections [] = refl
sizes_of_sections (s ∷ ss) = let rest = sizes_of_sections ss in omega (arith, rest, sum_by-cons (λ (b : Block). b.size) (section_block s) (map section_block ss), sum_by-cons (λ (x : Section). x.size) s ss)

sizes_of_commons : (ss : List Symbol) → sum_by (λ (b : Block). b.size) (map common_block ss) ≡ sum_by (λ (s : Symbol). s.size) ss
sizes_of_commons [] = refl
sizes_of_commons (s ∷ ss) = let rest = sizes_of_commons ss in omega (arith, rest, sum_by-cons (λ (b : Block). b.size) (common_block s) (map common_block ss), sum_by-cons (λ (x : Symbol). x.size) s ss)

block_bytes : (o : ElfObject) → sum_by (λ (b : Block). b.size) (blocks_of o) ≡ byte_count o
block_bytes o =
    let commons = common_symbols o.symbols in
    sum_by-append (λ (b : Block). b.size) (map section_block o.sections) (map common_block commons)
    ∙ ap (λ (n : ℕ). n + sum_by (λ (b : Block). b.size) (map common_block commons)) (sizes_of_sections o.sections)
    ∙ ap (λ (n : ℕ). sum_by (λ (s : Section). s.size) o.sections + n) (sizes_of_commons commons)

pub graph_sized : (names : List (List ℕ)) (o : ElfObject) (g : LinkGraph) → IsRead o → failed_check o ≡ None → g ≡ graph_of_parts names (trimmed o) → IsSized g
graph_sized names o g read none is =
    let passed = passed_all o none in
    let many = nat_lt MAX_BLOCKS (length o.sections + length (common_symbols o.symbols)) in
    let named = nat_lt MAX_SYMBOLS (length o.symbols) in
    let linked = nat_lt MAX_EDGES (edge_count o.sections) in
    let large = nat_lt MAX_BYTES (byte_count o) in
    let first = or_parts (many || named || linked) large passed.small in
    let second = or_parts (many || named) linked first.0 in
    let third = or_parts many named second.0 in
    let few = ltb-false MAX_BLOCKS (length o.sections + length (common_symbols o.symbols)) third.0 in
    let symbols = ltb-false MAX_SYMBOLS (length o.symbols) third.1 in
    let edges = ltb-false MAX_EDGES (edge_count o.sections) second.1 in
    let bytes = ltb-false MAX_BYTES (byte_count o) first.1 in
    let sections : length (trimmed o).sections ≡ length o.sections = length-map o.sections trimmed_section in
    let counted : length (graph_symbols names (length (trimmed o).sections) (trimmed o).symbols) ≡ length o.symbols = length-graph_symbols names (length (trimmed o).sections) (trimmed o).symbols ∙ length-map o.symbols (trimmed_symbol (all_cuts o.sections)) in
    subst IsSized (sym is) (record {
      blocks = omega (arith, count_blocks (trimmed o), sections, commons_counted o, few);
      symbols = omega (arith, counted, symbols);
      edges = omega (arith, edges_counted 0 o.sections, edges);
      bytes = omega (arith, block_bytes (trimmed o), bytes_counted o, bytes);
      aligns = aligned_blocks (trimmed o) (trimmed_facts o (facts o read));
    })

-- deletion leaves the names
pub all_named : (names : List (List ℕ)) (cuts : List (List Cut)) (ss : List Symbol) → AreNamed names ss → AreNamed names (map (trimmed_symbol cuts) ss)
all_named names cuts [] h = All-nil (λ (s : Symbol). IsTrue (is_global s) → Contains names s.name)
all_named names cuts (s ∷ ss) h =
    All-cons (λ (s : Symbol). IsTrue (is_global s) → Contains names s.name) (trimmed_symbol cuts s) (map (trimmed_symbol cuts) ss)
    (All-head (λ (s : Symbol). IsTrue (is_global s) → Contains names s.name) s ss h) (all_named names cuts ss (All-tail (λ (s : Symbol). IsTrue (is_global s) → Contains names s.name) s ss h))

pub graph_offers : (names : List (List ℕ)) (o : ElfObject) (g : LinkGraph) → IsRead o → AreNamed names o.symbols → g ≡ graph_of_parts names (trimmed o) → OffersDiffer g
graph_offers names o g read named is =
    let there = all_named names (all_cuts o.sections) o.symbols named in
    subst OffersDiffer (sym is) (record {
      named = names_there names (length (trimmed o).sections) (trimmed o).symbols there;
      differ = names_differ names (length (trimmed o).sections) (trimmed o).symbols there (trimmed_facts o (facts o read)).names;
    })
