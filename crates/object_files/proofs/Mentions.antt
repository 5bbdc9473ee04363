-- The distinct names of a list, found one by one: a name that was mentioned before adds nothing, and any other goes last.
use Rattle.std.proofs.Common.{◌≡◌, ℕ, suc, ◌+◌, ◌<◌, ◌≤◌, Bool, true, false, cond, ◌||◌, not, List, [], ◌∷◌, ◌++◌, length, map, drop, get_or, Some, refl, sym, ap, ◌∙◌, inl, inr, arith}
use Rattle.std.specs.Prelude.{slice_get}
use Rattle.std.specs.List.{list_any, position_or_len}
use Rattle.std.specs.Str.{bytes_eq}
use Rattle.std.specs.Cmp.Lexicographic.{same_text}
use Rattle.std.proofs.Math.ListN.{drop_of_length-le}
use Rattle.std.proofs.Math.Seq.{drop-cons}
use Rattle.std.proofs.lemmas.Bool.{cases_Bool, both_ways}
use Rattle.std.proofs.lemmas.List.{append_assoc, append-nil, map-append}
use Rattle.std.proofs.lemmas.Option.{none-some}
use Rattle.list_laws.proofs.Lists.{pushed_last, mapped_below}
use Rattle.object_files.specs.Files.{is_among, distinct_after, distinct, AreNumbered}
use Rattle.object_files.proofs.Snoc.{each_snoc, stays_in_snoc}

-- the files after one more word
abbrev pub with_mention : List (List ℕ) → List ℕ → List (List ℕ)
with_mention files word = cond (is_among files word) files (files ++ word ∷ [])

-- each number is the place of its word's text
abbrev pub HaveFiles : List (List ℕ) → List (List ℕ) → List ℕ → Type 0
HaveFiles files words numbers = (k number : ℕ) → slice_get numbers k ≡ Some number → (text : List ℕ) × (slice_get words k ≡ Some text) × (slice_get files number ≡ Some text)

-- ---- the list of files

-- what comes after depends on which names were mentioned, and not on their order
same_after : (some others : List (List ℕ)) → ((name : List ℕ) → is_among some name ≡ is_among others name) → (names : List (List ℕ)) → distinct_after some names ≡ distinct_after others names
same_after some others same [] = refl
same_after some others same (name ∷ names) = rw (
  same name,
  same_after some others same names,
  same_after (name ∷ some) (name ∷ others) (λ n. ap (λ b. bytes_eq n name || b) (same n)) names,
) refl

swapped : (a b c : Bool) → (a || (b || c)) ≡ (b || (a || c))
swapped true true c = refl
swapped true false c = refl
swapped false b c = refl

last_or_first : (files : List (List ℕ)) (word name : List ℕ) → is_among (files ++ word ∷ []) name ≡ is_among (word ∷ files) name
last_or_first [] word name = refl
last_or_first (file ∷ files) word name = ap (λ b. bytes_eq name file || b) (last_or_first files word name) ∙ swapped (bytes_eq name file) (bytes_eq name word) (is_among files name)

either_step : (mentioned : Bool) (files : List (List ℕ)) (word : List ℕ) (words : List (List ℕ)) →
    files ++ cond mentioned (distinct_after files words) (word ∷ distinct_after (word ∷ files) words) ≡ cond mentioned files (files ++ word ∷ []) ++ distinct_after (cond mentioned files (files ++ word ∷ [])) words
either_step true files word words = refl
either_step false files word words = ap (λ (rest : List (List ℕ)). files ++ word ∷ rest) (same_after (word ∷ files) (files ++ word ∷ []) (λ n. sym (last_or_first files word n)) words) ∙ sym (append_assoc files (word ∷ []) (distinct_after (files ++ word ∷ []) words))

pub one_mention : (files : List (List ℕ)) (word : List ℕ) (words : List (List ℕ)) → files ++ distinct_after files (word ∷ words) ≡ with_mention files word ++ distinct_after (with_mention files word) words
one_mention files word words = either_step (is_among files word) files word words

-- ---- the place of a word's text

item_later : (file : List ℕ) (files : List (List ℕ)) (n : ℕ) → slice_get (file ∷ files) (1 + n) ≡ slice_get files n
item_later file files n = let e : 1 + n ≡ suc n = omega arith in rw e refl

place_there : (files : List (List ℕ)) (word : List ℕ) → is_among files word ≡ true → slice_get files (position_or_len (bytes_eq word) files) ≡ Some word
place_there [] word h = absurd (both_ways false refl h)
place_there (file ∷ files) word h = elim (cases_Bool (bytes_eq word file)) [
  | inl t ↦ rw t (ap Some (sym (same_text word file (sym t))))
  | inr f ↦ rw f (item_later file files (position_or_len (bytes_eq word) files) ∙ place_there files word (rw f at h))
]

place_last : (files : List (List ℕ)) (word : List ℕ) → is_among files word ≡ false → position_or_len (bytes_eq word) files ≡ length files
place_last [] word h = refl
place_last (file ∷ files) word h = elim (cases_Bool (bytes_eq word file)) [
  | inl t ↦ absurd (both_ways true (rw t at h) refl)
  | inr f ↦ rw f (let e = place_last files word (rw f at h) in omega (arith, e))
]

place_of_mention : (files : List (List ℕ)) (word : List ℕ) → slice_get (with_mention files word) (position_or_len (bytes_eq word) files) ≡ Some word
place_of_mention files word = elim (cases_Bool (is_among files word)) [
  | inl t ↦ rw t (place_there files word t)
  | inr f ↦ rw (f, place_last files word f) (pushed_last files word)
]

-- a file keeps its place
stays : (mentioned : Bool) (files : List (List ℕ)) (word text : List ℕ) (k : ℕ) → slice_get files k ≡ Some text → slice_get (cond mentioned files (files ++ word ∷ [])) k ≡ Some text
stays true files word text k h = h
stays false files word text k h = stays_in_snoc files word text k h

-- ---- the same of words that have texts

any_text : {A : Type 0} (f : A → List ℕ) (word : List ℕ) (keys : List A) → list_any (λ k. bytes_eq word (f k)) keys ≡ is_among (map f keys) word
any_text f word [] = refl
any_text f word (k ∷ keys) = ap (λ b. bytes_eq word (f k) || b) (any_text f word keys)

place_text : {A : Type 0} (f : A → List ℕ) (word : List ℕ) (keys : List A) → position_or_len (λ k. bytes_eq word (f k)) keys ≡ position_or_len (bytes_eq word) (map f keys)
place_text f word [] = refl
place_text f word (k ∷ keys) = ap (λ (n : ℕ). cond (not (bytes_eq word (f k))) (1 + n) 0) (place_text f word keys)

either_text : {A : Type 0} (f : A → List ℕ) (mentioned : Bool) (keys : List A) (w : A) → map f (cond mentioned keys (keys ++ w ∷ [])) ≡ cond mentioned (map f keys) (map f keys ++ f w ∷ [])
either_text f true keys w = refl
either_text f false keys w = map-append f keys (w ∷ [])

pub with_text : {A : Type 0} (f : A → List ℕ) (keys grown : List A) (w : A) → grown ≡ cond (list_any (λ k. bytes_eq (f w) (f k)) keys) keys (keys ++ w ∷ []) → map f grown ≡ with_mention (map f keys) (f w)
with_text {A} f keys grown w h =
    ap (λ (ks : List A). map f ks) h
    ∙ (either_text f (list_any (λ k. bytes_eq (f w) (f k)) keys) keys w
    ∙ ap (λ (b : Bool). cond b (map f keys) (map f keys ++ f w ∷ [])) (any_text f (f w) keys))

-- the files after the word at a place
pub next_mention : {A : Type 0} (f : A → List ℕ) (ws : List A) (i : ℕ) (d : A) (files grown : List (List ℕ)) → i < length ws → grown ≡ with_mention files (f (get_or ws i d)) →
    grown ++ distinct_after grown (map f (drop (i + 1) ws)) ≡ files ++ distinct_after files (map f (drop i ws))
next_mention f ws i d files grown lt h =
    let later : i + 1 ≡ suc i = omega arith in
    rw (h, later, drop-cons ws i d lt) (sym (one_mention files (f (get_or ws i d)) (map f (drop (suc i) ws))))

-- the numbers after the word at a place
pub next_number : {A : Type 0} (f : A → List ℕ) (ws keys grown : List A) (i number : ℕ) (d : A) (numbers : List ℕ) → i < length ws → length numbers ≡ i →
    grown ≡ cond (list_any (λ k. bytes_eq (f (get_or ws i d)) (f k)) keys) keys (keys ++ get_or ws i d ∷ []) → number ≡ position_or_len (λ k. bytes_eq (f (get_or ws i d)) (f k)) keys →
    HaveFiles (map f keys) (map f ws) numbers → HaveFiles (map f grown) (map f ws) (numbers ++ number ∷ [])
next_number f ws keys grown i number d numbers lt count is place have =
    let w = get_or ws i d in
    let files = map f keys in
    rw (with_text f keys grown w is)
    (each_snoc (λ k n. (text : List ℕ) × (slice_get (map f ws) k ≡ Some text) × (slice_get (with_mention files (f w)) n ≡ Some text)) numbers number
    (λ k n at. let found = have k n at in (found.0, found.1, stays (is_among files (f w)) files (f w) found.0 n found.2))
    (f w, rw count (mapped_below f ws i d lt), rw (place, place_text f (f w) keys) (place_of_mention files (f w))))

-- ---- the end

pub none_numbered : (files words : List (List ℕ)) (numbers : List ℕ) → numbers ≡ [] → HaveFiles files words numbers
none_numbered files words numbers none = rw none (λ k number at. absurd (none-some number at))

-- past the last word
pub all_mentioned : {A : Type 0} (f : A → List ℕ) (ws : List A) (i : ℕ) (files : List (List ℕ)) → length ws ≤ i → files ++ distinct_after files (map f (drop i ws)) ≡ distinct (map f ws) → files ≡ distinct (map f ws)
all_mentioned f ws i files past h = sym (append-nil files) ∙ (ap (λ rest. files ++ distinct_after files (map f rest)) (sym (drop_of_length-le ws past)) ∙ h)

pub all_numbered : (files words : List (List ℕ)) (numbers : List ℕ) → HaveFiles files words numbers → length numbers ≡ length words → AreNumbered files words numbers
all_numbered files words numbers have all = record {
  all = all;
  are = λ k number at. let found = have k number at in found.2 ∙ sym found.1;
}
