-- Names in a table of strings.
use Rattle.std.proofs.Common.{◌≡◌, ℕ, zero, suc, ◌+◌, ◌-◌, ◌<◌, ◌≤◌, Bool, ◌==◌, List, [], ◌∷◌, ◌++◌, length, take, drop, Some, option_map, refl, sym, ap, subst, ◌∙◌, append_assoc, length-append, arith}
use Rattle.std.specs.Prelude.{position}
use Rattle.std.specs.List.{list_any, position_or_len}
use Rattle.std.proofs.lemmas.Bool.{lt-ltb, or_parts}
use Rattle.std.proofs.lemmas.List.{take_at}
use Rattle.elf_read.specs.Sections.{text_in}
use Rattle.elf_write.specs.Bytes.{no_strings, string_place, with_string}
use Rattle.elf_write.specs.Canonical.{IsText}
use Rattle.object_reading.specs.Places.{Stands, Ended}
use Rattle.object_reading.proofs.Standing.{stands_left, stands_right, stands_whole, stands_first, stands_dropped}

abbrev is_zero : ℕ → Bool
is_zero b = b == 0

position-text : (name rest : List ℕ) → IsText name → position_or_len is_zero (name ++ 0 ∷ rest) ≡ length name
position-text [] rest h = refl
position-text (b ∷ bs) rest h =
    let parts = or_parts (b == 0) (list_any is_zero bs) h in
    let ih = position-text bs rest parts.1 in
    rw parts.0 (omega (arith, ih))

pub text_in-text : (name rest : List ℕ) → IsText name → text_in (name ++ 0 ∷ rest) ≡ Some name
unfolding text_in
text_in-text name rest h =
    let at = position-text name rest h in
    let below = lt-ltb (length name) (length (name ++ 0 ∷ rest)) (omega (arith, length-append name (0 ∷ rest))) in
    let found : position is_zero (name ++ 0 ∷ rest) ≡ Some (length name) = rw (at, below) refl in
    ap (option_map (λ n. take n (name ++ 0 ∷ rest))) found ∙ ap Some (take_at name (0 ∷ rest) (length name) refl)

pub ended_text : {bytes name : List ℕ} {at : ℕ} → Ended bytes at name → IsText name → text_in (drop at bytes) ≡ Some name
ended_text {bytes} {name} e h = ap text_in e.is ∙ text_in-text name e.rest h

take_past : (m n : ℕ) (xs ys : List ℕ) → m ≡ length xs + n → take m (xs ++ ys) ≡ xs ++ take n ys
take_past m n [] ys e = let same : m ≡ n = omega arith in ap (λ (k : ℕ). take k ys) same
take_past zero n (x ∷ xs) ys e = absurd (omega arith)
take_past (suc m) n (x ∷ xs) ys e = ap (λ (l : List ℕ). x ∷ l) (take_past m n xs ys (omega arith))

-- the name is short enough to be found in so many bytes
pub ended_short : {bytes name : List ℕ} {at : ℕ} (m : ℕ) → Ended bytes at name → IsText name → length name < m → text_in (take m (drop at bytes)) ≡ Some name
ended_short {bytes} {name} m e h short =
    ap (λ l. text_in (take m l)) e.is
    ∙ ap text_in (take_past m (suc (m - 1 - length name)) name (0 ∷ e.rest) (omega arith))
    ∙ text_in-text name (take (m - 1 - length name) e.rest) h

-- ---- a table with a name at its end

pub string_first : (name strings : List ℕ) → Stands (with_string name strings) 0 strings
string_first [] strings = stands_whole strings
string_first (b ∷ bs) strings = stands_left strings (b ∷ bs) (stands_first (strings ++ (b ∷ bs)) (0 ∷ []))

pub string_place-le : (name strings : List ℕ) → string_place name strings ≤ length strings
string_place-le [] strings = omega arith
string_place-le (b ∷ bs) strings = omega arith

pub string_ended : (name strings : List ℕ) {table : List ℕ} → Stands table 0 no_strings → Stands table 0 (with_string name strings) → Ended table (string_place name strings) name
string_ended [] strings {table} first s = record { rest = first.back; is = stands_dropped first }
string_ended (b ∷ bs) strings {table} first s =
    let name : List ℕ = b ∷ bs in
    let s' : Stands table 0 (strings ++ (name ++ 0 ∷ [])) = subst (λ l. Stands table 0 l) (append_assoc strings name (0 ∷ [])) s in
    let place : 0 + length strings ≡ length strings = omega arith in
    let there = stands_right strings (name ++ 0 ∷ []) s' in
    record {
      rest = there.back;
      is = ap (λ (n : ℕ). drop n table) (sym place) ∙ stands_dropped there ∙ append_assoc name (0 ∷ []) there.back;
    }
