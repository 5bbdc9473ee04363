-- What every object that is read keeps, it keeps after deletion.
use Rattle.std.proofs.Common.{◌≡◌, ◌≢◌, ℕ, zero, suc, ◌+◌, ◌<◌, ◌≤◌, max, false, List, [], ◌∷◌, length, map, get_or, refl, sym, ap, subst, ◌∙◌, inl, inr, arith}
use Rattle.std.specs.Prelude.{sum_by, filter, not}
use Rattle.std.specs.List.{All, AllPairs}
use Rattle.std.proofs.lemmas.Bool.{cases_Bool, cases_lt}
use Rattle.std.proofs.lemmas.List.{length-append, length-map, get_or-map}
use Rattle.std.proofs.lemmas.List.Sums.{sum_by-cons}
use Rattle.std.proofs.lemmas.List.Elements.{All-nil, All-cons, All-head, All-tail}
use Rattle.elf_read.specs.declared.object.ElfObject.{ElfObject}
use Rattle.elf_read.specs.declared.object.Reloc.{Reloc}
use Rattle.elf_read.specs.declared.object.Section.{Section}
use Rattle.elf_read.specs.declared.object.SymPlace.{SymPlace}
use Rattle.elf_read.specs.declared.object.SymPlace.TheVariants as place
use Rattle.elf_read.specs.declared.object.Symbol.{Symbol}
use Rattle.link_model.specs.Image.{at_or}
use Rattle.link_model.specs.declared.graph.Block.{Block}
use Rattle.link_model.specs.Sound.{IsAlignment}
use Rattle.link_graph.specs.Object.{is_local, is_common, is_mark, common_block, common_symbols, edge_of, section_edges}
use Rattle.link_graph.specs.Padding.{boundary, cuts_of, moved, raised, all_cuts, trimmed_reloc, trimmed_section, trimmed_value, trimmed_symbol, trimmed}
use Rattle.link_graph.specs.Checks.{edge_count, byte_count}
use Rattle.link_graph.specs.Parts.{trimmed_edges}
use Rattle.link_graph.specs.declared.cuts.Cut.{Cut}
use Rattle.link_graph.proofs.Deletions.{cuts_by, cuts_in_turn, kept_inside, moved_rises}
use Rattle.link_graph.proofs.Powers.{boundary_power, exponent_below}
use Rattle.link_graph.proofs.ReadFacts.{PlaceInside, NamesFew, Facts}

-- ---- alignments

boundary_aligned : (a : ℕ) → boundary a ≤ 4096 → IsAlignment (boundary a)
boundary_aligned a le =
    let power = boundary_power a in
    (power.exponent, exponent_below power.exponent 12 (boundary a) power.is (omega arith), power.is)

greater_aligned : (a b : ℕ) → IsAlignment a → IsAlignment b → IsAlignment (max a b)
greater_aligned a b x y = elim (cases_lt a b) [
  | inl lt ↦ subst IsAlignment (omega arith) y
  | inr le ↦ subst IsAlignment (omega arith) x
]

Boundaries : ℕ → ℕ → List Cut → Type 0
Boundaries end before cuts = (align : ℕ) → IsAlignment align → IsAlignment (raised align cuts)

raised_aligned : (s : Section) (align : ℕ) → IsAlignment align → IsAlignment (raised align (cuts_of s))
unfolding Boundaries
raised_aligned s = cuts_by Boundaries s.size (λ end before align is. is)
    (λ end before at a c cs cut rest align is. rest (max align c.boundary) (greater_aligned align c.boundary is (subst IsAlignment (sym cut.same) (boundary_aligned a cut.bounded))))
    s.relocs 0 0

-- ---- lists

mapped : {X Y : Type 0} (P : X → Type 0) (Q : Y → Type 0) (f : X → Y) → ((x : X) → P x → Q (f x)) → (xs : List X) → All P xs → All Q (map f xs)
mapped P Q f step [] h = All-nil Q
mapped P Q f step (x ∷ xs) h = All-cons Q (f x) (map f xs) (step x (All-head P x xs h)) (mapped P Q f step xs (All-tail P x xs h))

mapped_pairs : {X : Type 0} (R : X → X → Type 0) (f : X → X) → ((x y : X) → R x y → R (f x) (f y)) → (xs : List X) → AllPairs R xs → AllPairs R (map f xs)
mapped_pairs {X} R f step xs h i j d before lt =
    let count = length-map xs f in
    let first : get_or (map f xs) i d ≡ f (get_or xs i d) = get_or-map f xs i d d (omega (arith, count)) in
    let second : get_or (map f xs) j d ≡ f (get_or xs j d) = get_or-map f xs j d d (omega (arith, count)) in
    rw (first, second) (step (get_or xs i d) (get_or xs j d) (h i j d before (omega (arith, count))))

-- ---- sections

few_bytes : (s : Section) → length s.bytes ≤ s.size → length (trimmed_section s).bytes ≤ (trimmed_section s).size
few_bytes s le = kept_inside (cuts_of s) s.bytes s.size (cuts_in_turn s) le

few_names : (n : ℕ) (cuts : List Cut) (rs : List Reloc) → All (λ (r : Reloc). r.symbol < n) rs → All (λ (r : Reloc). r.symbol < n) (map (trimmed_reloc cuts) rs)
few_names n cuts rs h = mapped (λ (r : Reloc). r.symbol < n) (λ (r : Reloc). r.symbol < n) (trimmed_reloc cuts) (λ r lt. lt) rs h

-- ---- symbols

size_moved : (sections : List Section) (k value : ℕ) → k < length sections → value ≤ at_or 0 (map (λ (s : Section). s.size) sections) k → moved (at_or [] (all_cuts sections) k) value ≤ at_or 0 (map (λ (s : Section). s.size) (map trimmed_section sections)) k
size_moved [] k value lt le = absurd (omega arith)
size_moved (s ∷ ss) zero value lt le = moved_rises (cuts_of s) value s.size (cuts_in_turn s) le
size_moved (s ∷ ss) (suc k) value lt le = size_moved ss k value (omega arith) le

place_moved : (sections : List Section) (value : ℕ) (p : SymPlace) → PlaceInside sections value p → PlaceInside (map trimmed_section sections) (trimmed_value (all_cuts sections) value p) p
place_moved sections value (place.In k) h = (omega (arith, h.0, length-map sections trimmed_section), size_moved sections k value h.0 h.1)
place_moved sections value place.Common h = h
place_moved sections value place.Undef h = tt
place_moved sections value place.Abs h = tt
place_moved sections value place.Passed h = tt

Apart : Symbol → Symbol → Type 0
Apart s t = is_local s ≡ false → is_local t ≡ false → s.name ≢ t.name

pub trimmed_facts : (o : ElfObject) → Facts o → Facts (trimmed o)
unfolding Apart
trimmed_facts o h =
    let cuts = all_cuts o.sections in
    let count : length (map (trimmed_symbol cuts) o.symbols) ≡ length o.symbols = length-map o.symbols (trimmed_symbol cuts) in
    record {
      bytes = mapped (λ (s : Section). length s.bytes ≤ s.size) (λ (s : Section). length s.bytes ≤ s.size) trimmed_section few_bytes o.sections h.bytes;
      aligns = mapped (λ (s : Section). IsAlignment s.align) (λ (s : Section). IsAlignment s.align) trimmed_section (λ s is. raised_aligned s s.align is) o.sections h.aligns;
      targets = subst (λ (n : ℕ). All (NamesFew n) (map trimmed_section o.sections)) (sym count)
          (mapped (NamesFew (length o.symbols)) (NamesFew (length o.symbols)) trimmed_section (λ s few. few_names (length o.symbols) (cuts_of s) s.relocs few) o.sections h.targets);
      places = mapped (λ (s : Symbol). PlaceInside o.sections s.value s.place) (λ (s : Symbol). PlaceInside (map trimmed_section o.sections) s.value s.place) (trimmed_symbol cuts)
          (λ s is. place_moved o.sections s.value s.place is) o.symbols h.places;
      names = mapped_pairs Apart (trimmed_symbol cuts) (λ s t apart. apart) o.symbols h.names;
    }

-- ---- no more bytes, and as many edges, blocks and symbols

fewer_bytes : (sections : List Section) → sum_by (λ (s : Section). s.size) (map trimmed_section sections) ≤ sum_by (λ (s : Section). s.size) sections
fewer_bytes [] = omega arith
fewer_bytes (s ∷ ss) =
    let rest = fewer_bytes ss in
    let size : Section → ℕ = λ (x : Section). x.size in
    omega (arith, rest, sum_by-cons size (trimmed_section s) (map trimmed_section ss), sum_by-cons size s ss)

same_commons : (cuts : List (List Cut)) (ss : List Symbol) → common_symbols (map (trimmed_symbol cuts) ss) ≡ map (trimmed_symbol cuts) (common_symbols ss)
same_commons cuts [] = refl
same_commons cuts (s ∷ ss) = elim (cases_Bool (is_common s.place)) [
  | inl t ↦ rw t (ap (λ (xs : List Symbol). trimmed_symbol cuts s ∷ xs) (same_commons cuts ss))
  | inr f ↦ rw f (same_commons cuts ss)
]

same_sizes : (cuts : List (List Cut)) (ss : List Symbol) → sum_by (λ (s : Symbol). s.size) (map (trimmed_symbol cuts) ss) ≡ sum_by (λ (s : Symbol). s.size) ss
same_sizes cuts [] = refl
same_sizes cuts (s ∷ ss) =
    let rest = same_sizes cuts ss in
    let size : Symbol → ℕ = λ (x : Symbol). x.size in
    omega (arith, rest, sum_by-cons size (trimmed_symbol cuts s) (map (trimmed_symbol cuts) ss), sum_by-cons size s ss)

pub commons_counted : (o : ElfObject) → length (common_symbols (trimmed o).symbols) ≡ length (common_symbols o.symbols)
commons_counted o =
    let cuts = all_cuts o.sections in
    ap (λ (xs : List Symbol). length xs) (same_commons cuts o.symbols) ∙ length-map (common_symbols o.symbols) (trimmed_symbol cuts)

pub bytes_counted : (o : ElfObject) → byte_count (trimmed o) ≤ byte_count o
bytes_counted o =
    let cuts = all_cuts o.sections in
    let commons : sum_by (λ (s : Symbol). s.size) (common_symbols (trimmed o).symbols) ≡ sum_by (λ (s : Symbol). s.size) (common_symbols o.symbols) = ap (sum_by (λ (s : Symbol). s.size)) (same_commons cuts o.symbols) ∙ same_sizes cuts (common_symbols o.symbols) in
    let sections = fewer_bytes o.sections in
    omega arith

edges_of_table : (block : ℕ) (cuts : List Cut) (rs : List Reloc) → length (map (edge_of block) (filter (λ (r : Reloc). not (is_mark r)) (map (trimmed_reloc cuts) rs))) ≡ length (filter (λ (r : Reloc). not (is_mark r)) rs)
edges_of_table block cuts [] = refl
edges_of_table block cuts (r ∷ rs) = elim (cases_Bool (is_mark r)) [
  | inl t ↦ rw t (edges_of_table block cuts rs)
  | inr f ↦ rw f (ap suc (edges_of_table block cuts rs))
]

pub edges_counted : (block : ℕ) (sections : List Section) → length (trimmed_edges block sections) ≡ edge_count sections
edges_counted block [] = refl
edges_counted block (s ∷ ss) =
    let both = length-append (section_edges block (trimmed_section s)) (trimmed_edges (block + 1) ss) in
    let here = edges_of_table block (cuts_of s) s.relocs in
    let rest = edges_counted (block + 1) ss in
    omega (arith, both, here, rest, sum_by-cons (λ (x : Section). length (filter (λ (r : Reloc). not (is_mark r)) x.relocs)) s ss)

-- a common symbol's block is as it was
pub same_common_blocks : (cuts : List (List Cut)) (ss : List Symbol) → map common_block (common_symbols (map (trimmed_symbol cuts) ss)) ≡ map common_block (common_symbols ss)
same_common_blocks cuts [] = refl
same_common_blocks cuts (s ∷ ss) = by_place s.place refl (same_common_blocks cuts ss)
  where
    by_place : (p : SymPlace) → s.place ≡ p → map common_block (common_symbols (map (trimmed_symbol cuts) ss)) ≡ map common_block (common_symbols ss) → map common_block (common_symbols (map (trimmed_symbol cuts) (s ∷ ss))) ≡ map common_block (common_symbols (s ∷ ss))
    by_place place.Common e rest = rw e (ap (λ (bs : List Block). common_block s ∷ bs) rest)
    by_place place.Undef e rest = rw e rest
    by_place place.Abs e rest = rw e rest
    by_place place.Passed e rest = rw e rest
    by_place (place.In k) e rest = rw e rest
