-- The number of a name in a table of names, by its place among the texts.
use Rattle.std.proofs.Common.{◌≡◌, ℕ, ◌<◌, true, List, [], ◌∷◌, ◌++◌, length, get_or, inl, inr, refl, sym, ◌∙◌, ap, arith}
use Rattle.std.specs.Prelude.{Some, nat_lt, Contains, slice_get}
use Rattle.std.specs.List.{position_or_len}
use Rattle.std.specs.Str.{bytes_eq}
use Rattle.std.specs.Cmp.Lexicographic.{nat_list_eq_equiv, same_text}
use Rattle.std.proofs.lemmas.Bool.{cases_Bool, false_from_ne_true}
use Rattle.std.proofs.lemmas.Bool.Decides.{nat_tests}
use Rattle.std.proofs.lemmas.Option.{slice_get-get_or}
use Rattle.std.proofs.lemmas.List.Sums.{position_or_len_is}
use Rattle.std.proofs.lemmas.Map.Views.{Contains-from_any, list_any-from_Contains}
use Rattle.orc_names.specs.Numbers.{IsNumberOf}
use Rattle.session_script.specs.Texts.{has, number_of, mentioned}

-- the table once a text is mentioned, from what interning says
pub mentioned_from : (old new : List (List ℕ)) (text : List ℕ) → (Contains old text → new ≡ old) → ((Contains old text → ⊥) → new ≡ old ++ text ∷ []) → new ≡ mentioned text old
mentioned_from old new text known added = elim (cases_Bool (has text old)) [
  | inl t ↦ rw t (known (Contains-from_any (λ x y e. same_text x y (sym e)) text old t))
  | inr f ↦ rw f (added (λ held. cc (list_any-from_Contains nat_list_eq_equiv text old held, f)))
]

-- a text that is read at its number
read_there : (names : List (List ℕ)) (text : List ℕ) (n : ℕ) → IsNumberOf names text n → get_or names n text ≡ text
read_there names text n is = cc (slice_get-get_or names n text is.given, is.there)

-- no earlier text is this one
not_before : (names : List (List ℕ)) (text : List ℕ) (n k : ℕ) → IsNumberOf names text n → k < n → bytes_eq text (get_or names k text) ≡ true → ⊥
not_before names text n k is below equal =
    let within : k < length names = omega (arith, is.given) in
    let there : slice_get names k ≡ Some text = slice_get-get_or names k text within ∙ ap Some (sym (same_text text (get_or names k text) (sym equal))) in
    let one : k ≡ n = is.only k there in
    omega arith

first_place : (names : List (List ℕ)) (text : List ℕ) (n : ℕ) → IsNumberOf names text n → position_or_len (bytes_eq text) names ≡ n
first_place names text n is =
    position_or_len_is (bytes_eq text) names n text (omega (arith, is.given))
    (λ k below. false_from_ne_true _ (not_before names text n k is below))
    (λ _. ap (bytes_eq text) (read_there names text n is) ∙ nat_list_eq_equiv.refl text)

pub number_from : (names : List (List ℕ)) (text : List ℕ) (n : ℕ) → IsNumberOf names text n → n ≡ number_of text names
number_from names text n is =
    let within : nat_lt n (length names) ≡ true = grind (arith, nat_tests, is.given) in
    rw (first_place names text n is, within) refl
