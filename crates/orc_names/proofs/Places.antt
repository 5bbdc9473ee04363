-- The place of a text in a list of distinct texts.
use Rattle.std.proofs.Common.{◌≡◌, ℕ, ◌<◌, List, [], ◌∷◌, ◌++◌, Some, true, false, length, get_or, sym, ◌∙◌, ap, arith}
use Rattle.std.proofs.lemmas.Grind.{common_steps}
use Rattle.std.specs.List.{IsDistinct, Contains, list_any, position, slice_get}
use Rattle.std.specs.Str.{bytes_eq}
use Rattle.std.specs.Cmp.Lexicographic.{nat_list_eq_equiv, same_text}
use Rattle.std.proofs.lemmas.Bool.{false_from_ne_true}
use Rattle.std.proofs.lemmas.List.{get_or_push, get_or_append_left}
use Rattle.std.proofs.lemmas.Option.{slice_get_within, slice_get-get_or}
use Rattle.std.proofs.lemmas.List.Quantifiers.{position-Some}
use Rattle.std.proofs.lemmas.Map.Keys.{apart_from_distinct}
use Rattle.std.proofs.lemmas.Map.Views.{Contains-from_any, list_any-from_Contains}
use Rattle.orc_names.specs.Numbers.{IsNumberOf, KeepsNumbers}

-- equal texts have the same bytes
same : (x y : List ℕ) → bytes_eq x y ≡ true → x ≡ y
same x y h = same_text x y (sym h)

-- what stands at a place is read there
read_at : (names : List (List ℕ)) (text : List ℕ) (k : ℕ) → slice_get names k ≡ Some text → (k < length names) × (get_or names k text ≡ text)
read_at names text k h = let within = slice_get_within names k text h in (within, cc (slice_get-get_or names k text within))

-- no text stands at two places
apart : (names : List (List ℕ)) (text : List ℕ) (i j : ℕ) → IsDistinct bytes_eq names → slice_get names i ≡ Some text → slice_get names j ≡ Some text → i < j → ⊥
apart names text i j distinct first second below =
    let one = read_at names text i first in
    let other = read_at names text j second in
    let differ : bytes_eq (get_or names i text) (get_or names j text) ≡ false = apart_from_distinct bytes_eq names i j text distinct below other.0 in
    cc (differ, ap (λ x. bytes_eq x (get_or names j text)) one.1, ap (λ x. bytes_eq text x) other.1, nat_list_eq_equiv.refl text)

-- where a text stands is its number
pub number-from_place : (names : List (List ℕ)) (text : List ℕ) (n : ℕ) → IsDistinct bytes_eq names → slice_get names n ≡ Some text → IsNumberOf names text n
number-from_place names text n distinct there = record {
  given = slice_get_within names n text there;
  there = there;
  only = λ other found.
      let not_after : n < other → ⊥ = apart names text n other distinct there found in
      let not_before : other < n → ⊥ = apart names text other n distinct found there in
      grind arith;
}

-- the first place of a text
pub place-from_position : (names : List (List ℕ)) (text : List ℕ) (n : ℕ) → position (bytes_eq text) names ≡ Some n → slice_get names n ≡ Some text
place-from_position names text n found =
    let at = position-Some (bytes_eq text) names n text found in
    let bytes : text ≡ get_or names n text = same text (get_or names n text) at.1 in
    slice_get-get_or names n text at.0 ∙ ap Some (sym bytes)

-- a text that the table finds is in the list
pub held-from_any : (names : List (List ℕ)) (text : List ℕ) → list_any (bytes_eq text) names ≡ true → Contains names text
held-from_any names text found = Contains-from_any same text names found

pub any-from_held : (names : List (List ℕ)) (text : List ℕ) → Contains names text → list_any (bytes_eq text) names ≡ true
any-from_held names text held = list_any-from_Contains nat_list_eq_equiv text names held

-- the text that is pushed stands last
pub last_place : (names : List (List ℕ)) (text : List ℕ) (n : ℕ) → length names ≡ n → slice_get (names ++ text ∷ []) n ≡ Some text
last_place names text n end =
    slice_get-get_or (names ++ text ∷ []) n text (grind (arith, common_steps)) ∙ ap Some (get_or_push names text text n end)

-- the table doesn't find a text that isn't in the list
pub not_found : (names : List (List ℕ)) (text : List ℕ) → (Contains names text → ⊥) → list_any (bytes_eq text) names ≡ false
not_found names text absent = false_from_ne_true _ (λ found. absent (held-from_any names text found))

-- a push keeps each number
pub KeepsNumbers-push : (names : List (List ℕ)) (text : List ℕ) → KeepsNumbers names (names ++ text ∷ [])
KeepsNumbers-push names text n old there =
    let at = read_at names old n there in
    let still : get_or (names ++ text ∷ []) n old ≡ old = get_or_append_left names (text ∷ []) old n at.0 ∙ at.1 in
    slice_get-get_or (names ++ text ∷ []) n old (grind (arith, common_steps)) ∙ ap Some still
