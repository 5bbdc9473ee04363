-- What the index of a file holds, as the loops that make it go on.
use Rattle.std.proofs.Common.{◌≡◌, ℕ, zero, suc, ◌+◌, ◌<◌, ◌≤◌, Bool, true, false, cond, not, nat_lt, ◌&&◌, ◌==◌, List, [], ◌∷◌, ◌++◌, length, get_or, map, Option, Some, None, set, get_or-set_same, get_or-set_other, length-append, refl, sym, ap, ◌∙◌, inl, inr, ◌≢◌, ◌⊎◌, is_none, add-one, arith}
use Rattle.std.specs.List.{range_with_len}
use Rattle.std.proofs.lemmas.Bool.{ne_eqb, eq-eqb, cases_eq, cases_Bool, ltb-true, and_parts, false≢true, and_left, and_right, and_from}
use Rattle.std.proofs.lemmas.List.FromFn.{filter_of_map_range_with_len_more, map-range_with_len_more}
use Rattle.elf_read.specs.declared.fields.SectionHeader.{SectionHeader}
use Rattle.elf_read.specs.Choice.{when, ◌otherwise◌}
use Rattle.elf_read.specs.File.{File, section}
use Rattle.elf_read.specs.Gabi.{sht_symtab, sht_rela}
use Rattle.elf_read.specs.Sections.{is_kept}
use Rattle.elf_read.specs.Symbols.{numbers, kept_below}

abbrev pub symtab_here : File → ℕ → Option ℕ
symtab_here f k = when ((section f k).kind == sht_symtab) k

abbrev pub rela_here : File → ℕ → ℕ → Option ℕ
rela_here f i k = when ((section f k).kind == sht_rela && (section f k).info == i) k

-- the numbers below n, as a list of what a function makes of them
pub numbers-map : (n : ℕ) → map (λ i. i) (numbers n) ≡ numbers n
numbers-map n = same 0 n where
  same : (a m : ℕ) → map (λ i. i) (range_with_len a m) ≡ range_with_len a m
  same a zero = refl
  same a (suc m) = ap (λ (xs : List ℕ). a ∷ xs) (same (a + 1) m)

pub kept_below-next : (f : File) (i : ℕ) → kept_below f (i + 1) ≡ kept_below f i ++ cond (is_kept (section f i)) (i ∷ []) []
unfolding kept_below
kept_below-next f i =
    let more = filter_of_map_range_with_len_more (λ (k : ℕ). is_kept (section f k)) (λ (k : ℕ). k) 0 i i (omega arith) in
    rw (← numbers-map (i + 1), ← numbers-map i) more

-- a test that fails, and nothing after what is there
pub when-false : {A : Type 0} (test : Bool) (x : A) → test ≡ false → when test x ≡ None
when-false test x h = rw h refl

pub when-true : {A : Type 0} (test : Bool) (x : A) → test ≡ true → when test x ≡ Some x
when-true test x h = rw h refl

pub otherwise-none : {A : Type 0} (o : Option A) → (o otherwise None) ≡ o
otherwise-none None = refl
otherwise-none (Some x) = refl

pub otherwise-when_false : {A : Type 0} (o : Option A) (test : Bool) (x : A) → test ≡ false → (o otherwise when test x) ≡ o
otherwise-when_false o test x h = rw (when-false test x h) (otherwise-none o)

-- the relocations of section `target` are noted at its place
pub note-kept : (relas : List (Option ℕ)) (kind target i k : ℕ) → (kind ≢ sht_rela) ⊎ (k ≢ target) → (get_or relas k None otherwise when (kind == sht_rela && target == k) i) ≡ get_or relas k None
note-kept relas kind target i k (inl other) = otherwise-when_false (get_or relas k None) _ i (and_left _ _ (ne_eqb kind sht_rela other))
note-kept relas kind target i k (inr other) = otherwise-when_false (get_or relas k None) _ i (and_right _ _ (ne_eqb target k (λ e. other (sym e))))

pub note-taken : (relas : List (Option ℕ)) (kind target i k : ℕ) → is_none (get_or relas target None) ≡ false → (get_or relas k None otherwise when (kind == sht_rela && target == k) i) ≡ get_or relas k None
note-taken relas kind target i k taken =
    elim (cases_eq k target) [
      | inl same ↦ rw same (stays (get_or relas target None) (when (kind == sht_rela && target == target) i) taken)
      | inr other ↦ note-kept relas kind target i k (inr other)
    ]
  where
    stays : (o next : Option ℕ) → is_none o ≡ false → (o otherwise next) ≡ o
    stays None next h = absurd cc
    stays (Some x) next h = refl

pub note-new : (relas : List (Option ℕ)) (kind target i k : ℕ) → kind ≡ sht_rela → target < length relas → get_or relas target None ≡ None → get_or (set relas target (Some i)) k None ≡ (get_or relas k None otherwise when (kind == sht_rela && target == k) i)
note-new relas kind target i k is_rela lt free =
    elim (cases_eq k target) [
      | inl same ↦ rw (same, free, when-true (kind == sht_rela && target == target) i (and_from _ _ (eq-eqb kind sht_rela is_rela) (eq-eqb target target refl))) (get_or-set_same relas target (Some i) None lt)
      | inr other ↦ get_or-set_other relas target k (Some i) None other ∙ sym (note-kept relas kind target i k (inr other))
    ]

pub length-kept_below-next : (f : File) (i : ℕ) → length (kept_below f (i + 1)) ≡ length (kept_below f i) + cond (is_kept (section f i)) 1 0
length-kept_below-next f i = ap length (kept_below-next f i) ∙ length-append (kept_below f i) (cond (is_kept (section f i)) (i ∷ []) []) ∙ ap (λ (n : ℕ). length (kept_below f i) + n) (one (is_kept (section f i)))
  where
    one : (b : Bool) → length (cond b (i ∷ []) []) ≡ cond b 1 0
    one true = refl
    one false = refl

kept_below-none : (f : File) → length (kept_below f 0) ≡ 0
unfolding kept_below
kept_below-none f = refl

pub kept_below-le : (f : File) (i : ℕ) → length (kept_below f i) ≤ i
kept_below-le f zero = omega (arith, kept_below-none f)
kept_below-le f (suc i) =
    let next : length (kept_below f (suc i)) ≡ length (kept_below f i) + cond (is_kept (section f i)) 1 0 = rw add-one at (length-kept_below-next f i) in
    omega (arith, next, kept_below-le f i, one (is_kept (section f i)))
  where
    one : (b : Bool) → cond b 1 0 ≤ 1
    one true = omega arith
    one false = omega arith

-- the counts of kept sections, with one more
pub counts-more : (f : File) (i kept : ℕ) (before : List ℕ) → before ≡ map (λ k. length (kept_below f k)) (numbers i) → kept ≡ length (kept_below f i) → before ++ kept ∷ [] ≡ map (λ k. length (kept_below f k)) (numbers (i + 1))
counts-more f i kept before so_far here = rw (so_far, here) (sym (map-range_with_len_more (λ (k : ℕ). length (kept_below f k)) 0 i i (omega arith)))

pub count-more : (f : File) (i kept : ℕ) (s : SectionHeader) → s ≡ section f i → kept ≡ length (kept_below f i) → kept + cond (is_kept s) 1 0 ≡ length (kept_below f (i + 1))
count-more f i kept s is_section here = rw (is_section, here) (sym (length-kept_below-next f i))

-- a kept section is one of the table's
pub kept-number : (f : File) (i : ℕ) → is_kept (section f i) ≡ true → i < f.count
unfolding section is_kept
kept-number f i kept =
    elim (cases_Bool (not (i == 0) && nat_lt i f.count)) [
      | inl there ↦ ltb-true i f.count (and_parts (not (i == 0)) (nat_lt i f.count) there).1
      | inr missing ↦ absurd (false≢true (rw missing at kept))
    ]
