-- How many bytes words take in a line.
use Rattle.std.proofs.Common.{◌≡◌, ℕ, ◌+◌, ◌*◌, ◌≤◌, ◌<◌, Bool, true, List, [], ◌∷◌, not, length, take, drop, inl, inr, arith, length-take, length-drop}
use Rattle.std.specs.Prelude.{is_some}
use Rattle.std.specs.List.{onto_first, slice_split, position_or_len}
use Rattle.std.proofs.lemmas.Bool.{cases_Bool, and_parts}
use Rattle.session_script.specs.declared.limits.TheConstants.{NUMBER_LIMIT}
use Rattle.session_script.specs.Words.{is_byte, parts, after, equals, is_empty, is_symbol, number_in, at_most}
use Rattle.session_script.specs.Forms.{symbol_part, address_part, are_symbols, are_addressed}

-- the bytes of words, each with a space
abbrev pub size_of : List (List ℕ) → ℕ
size_of [] = 0
size_of (word ∷ words) = length word + 1 + size_of words

size_onto_first : (b n : ℕ) (words : List (List ℕ)) → size_of words ≤ n + 1 → size_of (onto_first b words) ≤ n + 2
size_onto_first b n [] h = omega arith
size_onto_first b n (word ∷ words) h = omega arith

size_of_parts : (p : ℕ → Bool) (text : List ℕ) → size_of (slice_split p text) ≤ length text + 1
size_of_parts p [] = omega arith
size_of_parts p (b ∷ bs) = elim (cases_Bool (p b)) [
  | inl t ↦ rw t (omega (arith, size_of_parts p bs))
  | inr f ↦ rw f (omega (arith, size_onto_first b (length bs) (slice_split p bs) (size_of_parts p bs)))
]

pub size_of_words : (this : ℕ) (text : List ℕ) → size_of (parts this text) ≤ length text + 1
size_of_words this text = size_of_parts (is_byte this) text

some : (xs : List ℕ) → not (is_empty xs) ≡ true → 0 < length xs
some [] h = absurd cc
some (x ∷ xs) h = omega arith

some_symbol : (word : List ℕ) → is_symbol word ≡ true → 0 < length word
some_symbol [] h = absurd cc
some_symbol (b ∷ bs) h = omega arith

some_number : (base most : ℕ) (word : List ℕ) → is_some (at_most most (number_in base word)) ≡ true → 0 < length word
some_number base most [] h = absurd cc
some_number base most (b ∷ bs) h = omega arith

size_of_definition : (d : List ℕ) → is_symbol (symbol_part d) ≡ true → is_some (address_part d) ≡ true → 3 ≤ length d
size_of_definition d symbol address =
    let place = position_or_len (is_byte equals) d in
    let front : 0 < length (take place d) = some_symbol (symbol_part d) symbol in
    let back : 0 < length (drop (place + 1) d) = some_number 16 NUMBER_LIMIT (after equals d) address in
    omega (arith, length-take place d, length-drop (place + 1) d)

-- each definition takes four bytes
pub size_of_definitions : (ds : List (List ℕ)) → are_symbols ds ≡ true → are_addressed ds ≡ true → 4 * length ds ≤ size_of ds
size_of_definitions [] symbols addressed = omega arith
size_of_definitions (d ∷ ds) symbols addressed =
    let symbol = and_parts (is_symbol (symbol_part d)) (are_symbols ds) symbols in
    let address = and_parts (is_some (address_part d)) (are_addressed ds) addressed in
    omega (arith, size_of_definition d symbol.0 address.0, size_of_definitions ds symbol.1 address.1)
