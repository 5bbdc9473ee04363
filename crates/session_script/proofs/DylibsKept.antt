-- The dylibs that the lines so far declared have names of their own, and stay so as names are mentioned
-- and lines are read.
use Rattle.std.proofs.Common.{◌≡◌, ◌≢◌, ◌<◌, ◌≤◌, ℕ, zero, suc, true, false, List, [], ◌∷◌, ◌++◌, length, take, map, All, AllPairs, Some, inl, inr, refl, sym, subst, ◌∙◌, ap, arith, append-nil}
use Rattle.std.specs.Prelude.{⊤, slice_get}
use Rattle.std.specs.Str.{bytes_eq}
use Rattle.std.specs.Cmp.Lexicographic.{nat_list_eq_equiv}
use Rattle.std.proofs.lemmas.Bool.{cases_Bool}
use Rattle.std.proofs.lemmas.List.{length-map, length_push, map_push}
use Rattle.std.proofs.lemmas.List.Concat.{flat_map-append}
use Rattle.std.proofs.lemmas.List.Elements.{All-nil, All-cons, All-head, All-tail, All-push, All-map, All-weaker}
use Rattle.std.proofs.lemmas.List.Kept.{AllPairs-cons}
use Rattle.orc_ids.specs.declared.limits.TheConstants.{DYLIB_LIMIT}
use Rattle.session_script.specs.declared.script.SetupLine.{SetupLine}
use Rattle.session_script.specs.declared.script.SetupLine.TheVariants as setup
use Rattle.session_script.specs.Texts.{has, number_of, all_mentioned}
use Rattle.session_script.specs.WellFormed.{dylib_of, dylibs_of}
use Rattle.session_script.proofs.NamesApart.{same_number, has_all_mentioned}
use Rattle.session_script.proofs.TextNumbers.{number_of_known}

-- a line whose source is among so many dylibs, where it is an alias
abbrev pub HasSource : ℕ → SetupLine → Type 0
HasSource dylibs (setup.Alias alias) = alias.source.0 < dylibs
HasSource dylibs _ = ⊤

-- the texts of the dylibs that lines declared, where so many names are known
pub record AreDylibs (names dylibs : List (List ℕ)) (lines : List SetupLine) : Type 0 where
  pub numbers : dylibs_of lines ≡ map (λ d. number_of d names) dylibs
  pub there : All (λ d. has d names ≡ true) dylibs
  pub differ : AllPairs (λ c d. c ≢ d) dylibs
  pub few : length dylibs ≤ DYLIB_LIMIT
  pub sources : (k : ℕ) (line : SetupLine) → slice_get lines k ≡ Some line → HasSource (length (dylibs_of (take k lines))) line

same_numbers : (more names ds : List (List ℕ)) → All (λ d. has d names ≡ true) ds → map (λ d. number_of d (all_mentioned more names)) ds ≡ map (λ d. number_of d names) ds
same_numbers more names [] there = refl
same_numbers more names (d ∷ ds) there =
    ap (λ n. n ∷ map (λ d. number_of d (all_mentioned more names)) ds) (number_of_known d more names (All-head (λ d. has d names ≡ true) d ds there))
    ∙ ap (λ ns. number_of d names ∷ ns) (same_numbers more names ds (All-tail (λ d. has d names ≡ true) d ds there))

pub names_grown : (more names dylibs : List (List ℕ)) (lines : List SetupLine) → AreDylibs names dylibs lines → AreDylibs (all_mentioned more names) dylibs lines
names_grown more names dylibs lines good = record {
  numbers = good.numbers ∙ sym (same_numbers more names dylibs good.there);
  there = All-weaker (λ d. has d names ≡ true) (λ d. has d (all_mentioned more names) ≡ true) (λ d. has_all_mentioned d more names) dylibs good.there;
  differ = good.differ;
  few = good.few;
  sources = good.sources;
}

-- what holds of each of a list behind those before it, and of one more behind them all
each_pushed : {X : Type 0} (P : List X → X → Type 0) (xs : List X) (y : X) → ((k : ℕ) (x : X) → slice_get xs k ≡ Some x → P (take k xs) x) → P xs y → (k : ℕ) (x : X) → slice_get (xs ++ y ∷ []) k ≡ Some x → P (take k (xs ++ y ∷ [])) x
each_pushed P [] y each last zero x at =
    let same : y ≡ x = cc at in
    subst (P []) same last
each_pushed P [] y each last (suc k) x at = absurd cc
each_pushed P (z ∷ xs) y each last zero x at = each zero x at
each_pushed P (z ∷ xs) y each last (suc k) x at = each_pushed (λ before. P (z ∷ before)) xs y (λ k. each (suc k)) last k x at

count : (names dylibs : List (List ℕ)) (lines : List SetupLine) → AreDylibs names dylibs lines → length (dylibs_of lines) ≡ length dylibs
count names dylibs lines good = ap length good.numbers ∙ length-map dylibs (λ d. number_of d names)

-- a line that declares no dylib
pub line_read : (names dylibs : List (List ℕ)) (lines : List SetupLine) (line : SetupLine) → dylib_of line ≡ [] → HasSource (length dylibs) line → AreDylibs names dylibs lines → AreDylibs names dylibs (lines ++ line ∷ [])
line_read names dylibs lines line none source good = record {
  numbers =
      let same : dylibs_of (lines ++ line ∷ []) ≡ dylibs_of lines = simp (flat_map-append, append-nil, none) refl in
      same ∙ good.numbers;
  there = good.there;
  differ = good.differ;
  few = good.few;
  sources = each_pushed (λ before line. HasSource (length (dylibs_of before)) line) lines line good.sources (rw (count names dylibs lines good) source);
}

-- a text that isn't there is none of those that are
not_there : (d : List ℕ) (ds : List (List ℕ)) → has d ds ≡ false → All (λ c. c ≢ d) ds
not_there d [] new = All-nil (λ c. c ≢ d)
not_there d (c ∷ cs) new = elim (cases_Bool (bytes_eq d c)) [
  | inl t ↦ absurd cc
  | inr f ↦ All-cons (λ c. c ≢ d) c cs (λ same. cc (f, ap (bytes_eq d) same, nat_list_eq_equiv.refl d)) (not_there d cs (rw f at new))
]

pairs_pushed : {X : Type 0} (R : X → X → Type 0) (xs : List X) (y : X) → AllPairs R xs → All (λ x. R x y) xs → AllPairs R (xs ++ y ∷ [])
pairs_pushed R [] y pairs all = λ i j d less below. absurd (omega arith)
pairs_pushed R (x ∷ xs) y pairs all =
    AllPairs-cons R x (xs ++ y ∷ [])
    (All-push (R x) xs y (λ j d below. pairs zero (suc j) d (omega arith) (omega arith)) (All-head (λ x. R x y) x xs all))
    (pairs_pushed R xs y (λ i j d less below. pairs (suc i) (suc j) d (omega arith) (omega arith)) (All-tail (λ x. R x y) x xs all))

-- one more dylib, with a name of its own
pub dylib_read : (names dylibs : List (List ℕ)) (lines : List SetupLine) (d : List ℕ) → has d names ≡ true → has d dylibs ≡ false → length dylibs < DYLIB_LIMIT → AreDylibs names dylibs lines → AreDylibs names (dylibs ++ d ∷ []) (lines ++ setup.Dylib (record { 0 = number_of d names }) ∷ [])
dylib_read names dylibs lines d named new room good =
    let number : List ℕ → ℕ = λ d. number_of d names in
    let line : SetupLine = setup.Dylib (record { 0 = number d }) in
    record {
      numbers =
          let more : dylibs_of (lines ++ line ∷ []) ≡ dylibs_of lines ++ number d ∷ [] = simp flat_map-append refl in
          more ∙ ap (λ ns. ns ++ number d ∷ []) good.numbers ∙ sym (map_push number dylibs d);
      there = All-push (λ d. has d names ≡ true) dylibs d good.there named;
      differ = pairs_pushed (λ c d. c ≢ d) dylibs d good.differ (not_there d dylibs new);
      few = omega (arith, length_push dylibs d);
      sources = each_pushed (λ before line. HasSource (length (dylibs_of before)) line) lines line good.sources tt;
    }

-- the numbers of other texts are others
numbers_differ : (names ds : List (List ℕ)) → All (λ d. has d names ≡ true) ds → AllPairs (λ c d. c ≢ d) ds → AllPairs (λ m n. m ≢ n) (map (λ d. number_of d names) ds)
numbers_differ names [] there differ = λ i j d less below. absurd (omega arith)
numbers_differ names (d ∷ ds) there differ =
    let number : List ℕ → ℕ = λ d. number_of d names in
    let first = All-head (λ d. has d names ≡ true) d ds there in
    let rest = All-tail (λ d. has d names ≡ true) d ds there in
    AllPairs-cons (λ m n. m ≢ n) (number d) (map number ds)
    (All-map (λ n. number d ≢ n) number ds (λ i e below same. differ zero (suc i) e (omega arith) (omega arith) (same_number d _ names first (rest i e below) same)))
    (numbers_differ names ds rest (λ i j e less below. differ (suc i) (suc j) e (omega arith) (omega arith)))

pub dylibs_differ : (names dylibs : List (List ℕ)) (lines : List SetupLine) → AreDylibs names dylibs lines → AllPairs (λ m n. m ≢ n) (dylibs_of lines)
dylibs_differ names dylibs lines good = rw good.numbers (numbers_differ names dylibs good.there good.differ)

pub dylibs_few : (names dylibs : List (List ℕ)) (lines : List SetupLine) → AreDylibs names dylibs lines → length (dylibs_of lines) ≤ DYLIB_LIMIT
dylibs_few names dylibs lines good = omega (arith, count names dylibs lines good, good.few)
