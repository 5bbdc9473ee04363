-- What every object keeps that is read: its sections, its symbols, and what its relocations name.
use Rattle.std.proofs.Common.{◌≡◌, ◌≢◌, ℕ, zero, suc, ◌+◌, ◌-◌, ◌^◌, ◌<◌, ◌≤◌, Bool, true, false, cond, not, ◌&&◌, ◌||◌, ◌==◌, nat_lt, nat_le, List, [], ◌∷◌, ◌++◌, length, map, drop, get_or, Option, Some, None, refl, sym, ap, subst, ◌∙◌, inl, inr, add-one, arith}
use Rattle.std.specs.Prelude.{⊤, if◌then◌else◌}
use Rattle.std.specs.List.{All, AllPairs, filter, list_any, list_all, range_with_len}
use Rattle.std.specs.Str.{bytes_eq}
use Rattle.std.specs.Cmp.Lexicographic.{nat_list_eq_equiv}
use Rattle.std.proofs.lemmas.Bool.{cases_Bool, cases_lt, eqb-true, ltb-false, leb-true, leb-false, false≢true, and_parts, and_from, or_cases, or_parts, not-false, not_from_false, cond_both}
use Rattle.std.proofs.lemmas.List.{length-append, length-take, length-map, get_or_append_left, get_or-append_right}
use Rattle.std.proofs.lemmas.List.Elements.{All-nil, All-cons, All-map}
use Rattle.std.proofs.lemmas.List.FromFn.{length-range_with_len, length-map-range_with_len, get_or-map-range_with_len, get_or-range_with_len}
use Rattle.link_model.specs.Image.{at_or}
use Rattle.link_model.specs.Sound.{IsAlignment}
use Rattle.elf_read.proofs.Firsts.{when-none}
use Rattle.elf_read.proofs.Tables.{kept-number, kept_below-next}
use Rattle.elf_read.specs.Choice.{any_below}
use Rattle.elf_read.specs.File.{File, file_of, section, contents}
use Rattle.elf_read.specs.Gabi.{shn_undef, shn_abs, shn_common, stb_local, sht_nobits}
use Rattle.elf_read.specs.Object.{object_in, section_in}
use Rattle.elf_read.specs.Sections.{is_kept, is_small_power, rela_of}
use Rattle.elf_read.specs.Symbols.{entries_refusal, entries_in, symbol_count, entry, symbol_name, symbol_in, symbol_zero, is_misplaced, is_global, is_taken, in_section, is_no_symbol, reloc, reloc_count, relocs_in, kept_below, numbers, place_of}
use Rattle.elf_read.specs.declared.error.ElfError.TheVariants.{BadLink}
use Rattle.elf_read.specs.declared.object.ElfObject.{ElfObject}
use Rattle.elf_read.specs.declared.object.Reloc.{Reloc}
use Rattle.elf_read.specs.declared.object.Section.{Section}
use Rattle.elf_read.specs.declared.object.SymPlace.{SymPlace}
use Rattle.elf_read.specs.declared.object.SymPlace.TheVariants as place
use Rattle.elf_read.specs.declared.object.Symbol.{Symbol}
use Rattle.link_graph.specs.Object.{is_local}
use Rattle.link_graph.specs.Read.{IsRead}
use Rattle.link_graph.proofs.ReadChecks.{Passes, passes, second_false, section_align, symbol_own, symbol_fresh, symbol_placed, section_entries, none_below}
use Rattle.link_graph.proofs.ReadNames.{object_is}

-- where a symbol lies: in its section or at its end; the value of a common one is its alignment
abbrev pub PlaceInside : List Section → ℕ → SymPlace → Type 0
PlaceInside sections value (place.In k) = (k < length sections) × (value ≤ at_or 0 (map (λ (s : Section). s.size) sections) k)
PlaceInside sections value place.Common = IsAlignment value
PlaceInside sections value _ = ⊤

abbrev pub NamesFew : ℕ → Section → Type 0
NamesFew n s = All (λ (r : Reloc). r.symbol < n) s.relocs

pub record Facts (o : ElfObject) : Type 0 where
  pub bytes : All (λ (s : Section). length s.bytes ≤ s.size) o.sections
  pub aligns : All (λ (s : Section). IsAlignment s.align) o.sections
  pub targets : All (NamesFew (length o.symbols)) o.sections
  pub places : All (λ (s : Symbol). PlaceInside o.sections s.value s.place) o.symbols
  pub names : AllPairs (λ (s t : Symbol). is_local s ≡ false → is_local t ≡ false → s.name ≢ t.name) o.symbols

-- ---- lists of kept sections

all_cond : (P : ℕ → Type 0) (b : Bool) (x : ℕ) (xs : List ℕ) → (b ≡ true → P x) → All P xs → All P (cond b (x ∷ xs) xs)
all_cond P true x xs here rest = All-cons P x xs (here refl) rest
all_cond P false x xs here rest = rest

all_passing : (p : ℕ → Bool) (P : ℕ → Type 0) (a n : ℕ) → ((i : ℕ) → p i ≡ true → P i) → All P (filter p (range_with_len a n))
all_passing p P a zero h = All-nil P
all_passing p P a (suc n) h = all_cond P (p a) a (filter p (range_with_len (a + 1) n)) (h a) (all_passing p P (a + 1) n h)

all_kept : (f : File) (P : ℕ → Type 0) → ((i : ℕ) → is_kept (section f i) ≡ true → P i) → All P (kept_below f f.count)
unfolding kept_below
all_kept f P h = all_passing (λ i. is_kept (section f i)) P 0 f.count h

-- a kept section stands among the kept ones where its number says
push_last : (f : File) (n i : ℕ) (xs : List ℕ) → i ≡ n → length xs ≡ length (kept_below f i) → (length (kept_below f i) < length (xs ++ n ∷ [])) × (get_or (xs ++ n ∷ []) (length (kept_below f i)) 0 ≡ i)
push_last f n i xs same len =
    let k : ℕ = length (kept_below f i) in
    let first : k - length xs ≡ 0 = omega arith in
    (omega (arith, length-append xs (n ∷ [])), get_or-append_right xs (n ∷ []) (length xs) k 0 refl (omega arith) ∙ ap (λ (j : ℕ). get_or (n ∷ []) j 0) first ∙ sym same)

push_earlier : (k n i : ℕ) (xs ys : List ℕ) → k < length xs → get_or xs k 0 ≡ i → (k < length (xs ++ ys)) × (get_or (xs ++ ys) k 0 ≡ i)
push_earlier k n i xs ys lt e = (omega (arith, length-append xs ys), get_or_append_left xs ys 0 k lt ∙ e)

abbrev StandsAt : File → ℕ → List ℕ → Type 0
StandsAt f i kept = (length (kept_below f i) < length kept) × (get_or kept (length (kept_below f i)) 0 ≡ i)

kept_stands : (f : File) (n i : ℕ) → i < n → is_kept (section f i) ≡ true → StandsAt f i (kept_below f n)
kept_stands f zero i lt kept = absurd (omega arith)
kept_stands f (suc n) i lt kept =
    let next : kept_below f (suc n) ≡ kept_below f n ++ cond (is_kept (section f n)) (n ∷ []) [] = rw add-one at (kept_below-next f n) in
    elim (cases_lt i n) [
      | inl below ↦ (
          let before = kept_stands f n i below kept in
          subst (StandsAt f i) (sym next) (push_earlier (length (kept_below f i)) n i (kept_below f n) (cond (is_kept (section f n)) (n ∷ []) []) before.0 before.1))
      | inr above ↦ (
          let same : i ≡ n = omega arith in
          let is : is_kept (section f n) ≡ true = subst (λ (k : ℕ). is_kept (section f k) ≡ true) same kept in
          let all : kept_below f (suc n) ≡ kept_below f n ++ n ∷ [] = next ∙ ap (λ (b : Bool). kept_below f n ++ cond b (n ∷ []) []) is in
          subst (StandsAt f i) (sym all) (push_last f n i (kept_below f n) same (ap (λ (k : ℕ). length (kept_below f k)) (sym same))))
    ]

-- ---- sections

power_among : (n : ℕ) (ks : List ℕ) → list_any (λ k. n == 2 ^ k) ks ≡ true → list_all (λ k. nat_le k 12) ks ≡ true → IsAlignment n
power_among n [] h small = absurd cc
power_among n (k ∷ ks) h small =
    let few = and_parts (nat_le k 12) (list_all (λ k. nat_le k 12) ks) small in
    elim (or_cases (n == 2 ^ k) (list_any (λ k. n == 2 ^ k) ks) h) [
      | inl e ↦ (k, leb-true k 12 few.0, eqb-true n (2 ^ k) e)
      | inr rest ↦ power_among n ks rest few.1
    ]

small_power : (n : ℕ) → is_small_power n ≡ true → IsAlignment n
unfolding is_small_power
small_power n h = power_among n (0 ∷ 1 ∷ 2 ∷ 3 ∷ 4 ∷ 5 ∷ 6 ∷ 7 ∷ 8 ∷ 9 ∷ 10 ∷ 11 ∷ 12 ∷ []) h refl

one_or : (n : ℕ) → (n == 0 || is_small_power n) ≡ true → IsAlignment (cond (n == 0) 1 n)
one_or n h = cond_both (n == 0) 1 n IsAlignment (λ none. (0, omega arith, refl)) (λ some. small_power n (other (n == 0) (is_small_power n) some h))
  where
    other : (a b : Bool) → a ≡ false → (a || b) ≡ true → b ≡ true
    other true b e h = absurd cc
    other false b e h = h

kept_aligned : (f : File) (i : ℕ) → Passes f → is_kept (section f i) ≡ true → IsAlignment (section_in f i).align
unfolding section_in
kept_aligned f i p kept = one_or (section f i).align (section_align f i (p.sections i (kept-number f i kept)) kept)

bytes_inside : (f : File) (i : ℕ) → length (section_in f i).bytes ≤ (section_in f i).size
unfolding section_in
bytes_inside f i =
    cond_both ((section f i).kind == sht_nobits) [] (contents f.bytes (section f i)) (λ (bytes : List ℕ). length bytes ≤ (section f i).size) (λ none. omega arith)
    (λ some. omega (arith, length-take (section f i).size (drop (section f i).offset f.bytes)))

entry_there : (f : File) (n k : ℕ) (number : ℕ → ℕ) → any_below n (λ j. is_no_symbol f (number j)) ≡ false → k < n → number k < symbol_count f
entry_there f n k number none lt =
    leb-false (symbol_count f) (number k) (or_parts (nat_le (symbol_count f) (number k)) (number k == 0xffffffff) (none_below n k (λ j. is_no_symbol f (number j)) none lt)).0

targets_there : (f : File) (r : Option ℕ) → entries_refusal f r ≡ None → All (λ (x : Reloc). x.symbol < symbol_count f) (entries_in f r)
targets_there f None h = All-nil (λ (x : Reloc). x.symbol < symbol_count f)
targets_there f (Some r) h =
    let n = reloc_count (section f r) in
    let entry : ℕ → Reloc = reloc f (section f r) in
    All-map (λ (x : Reloc). x.symbol < symbol_count f) entry (numbers n)
    (λ k d lt.
    let within : k < n = omega (arith, length-range_with_len 0 n) in
    let is : get_or (range_with_len 0 n) k d ≡ k = get_or-range_with_len 0 n k d within ∙ omega arith in
    subst (λ (j : ℕ). (entry j).symbol < symbol_count f) (sym is)
    (entry_there f n k (λ j. (entry j).symbol) (when-none (any_below n (λ j. is_no_symbol f (entry j).symbol)) (BadLink r) h) within))

kept_targets : (f : File) (i : ℕ) → Passes f → is_kept (section f i) ≡ true → NamesFew (symbol_count f) (section_in f i)
unfolding section_in relocs_in
kept_targets f i p kept = targets_there f (rela_of f i) (section_entries f i (p.relocs i (kept-number f i kept)) kept)

-- ---- symbols

size_there : (f : File) (ks : List ℕ) (k : ℕ) → k < length ks → at_or 0 (map (λ (s : Section). s.size) (map (section_in f) ks)) k ≡ (section_in f (get_or ks k 0)).size
size_there f [] k lt = absurd (omega arith)
size_there f (i ∷ ks) zero lt = refl
size_there f (i ∷ ks) (suc k) lt = size_there f ks k (omega arith)

size_in : (f : File) (i : ℕ) → (section_in f i).size ≡ (section f i).size
unfolding section_in
size_in f i = refl

-- in a kept section
lies_inside : (f : File) (i value : ℕ) → is_kept (section f i) ≡ true → value ≤ (section f i).size → PlaceInside (map (section_in f) (kept_below f f.count)) value (place.In (length (kept_below f i)))
lies_inside f i value kept le =
    let there = kept_stands f f.count i (kept-number f i kept) kept in
    let size = size_there f (kept_below f f.count) (length (kept_below f i)) there.0 in
    let is = ap (λ (k : ℕ). (section_in f k).size) there.1 in
    (omega (arith, length-map (kept_below f f.count) (section_in f), there.0), omega (arith, size, is, size_in f i))

record Place (f : File) (j : ℕ) : Type 0 where
  inside : in_section (entry f j) ≡ true → is_kept (section f (entry f j).section) ≡ true → (entry f j).value ≤ (section f (entry f j).section).size
  common : ((entry f j).section == shn_common) ≡ true → IsAlignment (entry f j).value

well_placed : (f : File) (j : ℕ) → is_misplaced f (entry f j) ≡ false → Place f j
unfolding is_misplaced
well_placed f j h =
    let e = entry f j in
    let a = in_section e && nat_le f.count e.section in
    let size = nat_lt (section f e.section).size e.value in
    let b = in_section e && is_kept (section f e.section) && size in
    let power = not (is_small_power e.value) || nat_lt (2 ^ 24) e.size in
    let c = e.section == shn_common && power in
    let d = e.bind == stb_local && (e.section == shn_undef || e.section == shn_common) in
    let first = or_parts (a || b || c) d h in
    let second = or_parts (a || b) c first.0 in
    let third = or_parts a b second.0 in
    record {
      inside = λ within kept. ltb-false (section f e.section).size e.value (second_false (in_section e && is_kept (section f e.section)) size (and_from (in_section e) (is_kept (section f e.section)) within kept) third.1);
      common = λ is. small_power e.value (not-false (is_small_power e.value) (or_parts (not (is_small_power e.value)) (nat_lt (2 ^ 24) e.size) (second_false (e.section == shn_common) power is second.1)).0);
    }

place_inside : (f : File) (j : ℕ) → Place f j → PlaceInside (map (section_in f) (kept_below f f.count)) (entry f j).value (place_of f (entry f j))
unfolding place_of
place_inside f j h =
    let e = entry f j in
    let sections = map (section_in f) (kept_below f f.count) in
    let P : SymPlace → Type 0 = PlaceInside sections e.value in
    let kept : SymPlace = (if is_kept (section f e.section) then place.In (length (kept_below f e.section)) else place.Passed) in
    let common : SymPlace = (if e.section == shn_common then place.Common else kept) in
    let absolute : SymPlace = (if e.section == shn_abs then place.Abs else common) in
    cond_both (e.section == shn_undef) place.Undef absolute P (λ t. tt)
    (λ n. cond_both (e.section == shn_abs) place.Abs common P (λ t. tt)
    (λ not_abs. cond_both (e.section == shn_common) place.Common kept P h.common
    (λ not_common. cond_both (is_kept (section f e.section)) (place.In (length (kept_below f e.section))) place.Passed P
    (λ is. lies_inside f e.section e.value is (h.inside (and_from (not (e.section == shn_abs)) (not (e.section == shn_common)) (not_from_false (e.section == shn_abs) not_abs) (not_from_false (e.section == shn_common) not_common)) is))
    (λ n. tt))))

symbol_inside : (f : File) (j : ℕ) → Passes f → j < symbol_count f → PlaceInside (map (section_in f) (kept_below f f.count)) (symbol_in f j).value (symbol_in f j).place
unfolding symbol_in
symbol_inside f j p lt =
    let sections = map (section_in f) (kept_below f f.count) in
    cond_both (j == 0) symbol_zero _ (λ (s : Symbol). PlaceInside sections s.value s.place) (λ first. tt)
    (λ later. place_inside f j (well_placed f j (symbol_placed f j (symbol_own f j later (p.symbols j lt)))))

-- a symbol that isn't local is none but the first, and its name is its own
record Other (f : File) (j : ℕ) : Type 0 where
  later : (j == 0) ≡ false
  global : is_global f j ≡ true
  name : (symbol_in f j).name ≡ symbol_name f j

not_local : (f : File) (j : ℕ) → is_local (symbol_in f j) ≡ false → Other f j
unfolding symbol_in is_global
not_local f j h = elim (cases_Bool (j == 0)) [
  | inl first ↦ absurd (false≢true (sym (rw first at h)))
  | inr later ↦ record {
    later = later;
    global = and_from (not (j == 0)) (not ((entry f j).bind == stb_local)) (not_from_false (j == 0) later) (not_from_false ((entry f j).bind == stb_local) (rw later at h));
    name = rw later refl;
  }
]

names_apart : (f : File) (i j : ℕ) → Passes f → i < j → j < symbol_count f → is_local (symbol_in f i) ≡ false → is_local (symbol_in f j) ≡ false → (symbol_in f i).name ≢ (symbol_in f j).name
unfolding is_taken
names_apart f i j p before lt local local' same =
    let earlier = not_local f i local in
    let later = not_local f j local' in
    let test : ℕ → Bool = λ k. is_global f k && bytes_eq (symbol_name f j) (symbol_name f k) in
    let free = second_false (is_global f j) (any_below j test) later.global (symbol_fresh f j later.later (p.symbols j lt)) in
    let equal : symbol_name f j ≡ symbol_name f i = sym later.name ∙ sym same ∙ earlier.name in
    let alike : bytes_eq (symbol_name f j) (symbol_name f i) ≡ true = rw equal (nat_list_eq_equiv.refl (symbol_name f i)) in
    false≢true (sym (none_below j i test free before) ∙ and_from (is_global f i) (bytes_eq (symbol_name f j) (symbol_name f i)) earlier.global alike)

facts_in : (f : File) → Passes f → Facts (object_in f)
unfolding object_in
facts_in f p =
    let n = symbol_count f in
    let count : length (map (symbol_in f) (numbers n)) ≡ n = length-map-range_with_len (symbol_in f) 0 n in
    record {
      bytes = All-map (λ (s : Section). length s.bytes ≤ s.size) (section_in f) (kept_below f f.count) (λ k d lt. bytes_inside f (get_or (kept_below f f.count) k d));
      aligns = All-map (λ (s : Section). IsAlignment s.align) (section_in f) (kept_below f f.count) (all_kept f (λ i. IsAlignment (section_in f i).align) (λ i kept. kept_aligned f i p kept));
      targets = All-map (NamesFew (length (map (symbol_in f) (numbers n)))) (section_in f) (kept_below f f.count)
          (all_kept f (λ i. NamesFew (length (map (symbol_in f) (numbers n))) (section_in f i)) (λ i kept. subst (λ (m : ℕ). NamesFew m (section_in f i)) (sym count) (kept_targets f i p kept)));
      places = λ j d lt.
          let within : j < n = omega (arith, count) in
          let is : get_or (map (symbol_in f) (numbers n)) j d ≡ symbol_in f j = get_or-map-range_with_len (symbol_in f) 0 n j j d within (omega arith) in
          subst (λ (s : Symbol). PlaceInside (map (section_in f) (kept_below f f.count)) s.value s.place) (sym is) (symbol_inside f j p within);
      names = λ i j d before lt.
          let within : j < n = omega (arith, count) in
          let first : get_or (map (symbol_in f) (numbers n)) i d ≡ symbol_in f i = get_or-map-range_with_len (symbol_in f) 0 n i i d (omega arith) (omega arith) in
          let second : get_or (map (symbol_in f) (numbers n)) j d ≡ symbol_in f j = get_or-map-range_with_len (symbol_in f) 0 n j j d within (omega arith) in
          rw (first, second) (names_apart f i j p before within);
    }

pub facts : (o : ElfObject) → IsRead o → Facts o
facts o r = subst Facts (object_is r.bytes o r.read) (facts_in (file_of r.bytes) (passes r.bytes o r.read))
