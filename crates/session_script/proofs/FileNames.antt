-- The names of files are text.
use Rattle.std.proofs.Common.{◌≡◌, ℕ, zero, suc, ◌<◌, Bool, true, false, List, [], ◌∷◌, refl, arith, get_or, length}
use Rattle.std.specs.Prelude.{nat_le, ◌&&◌, not, Some, slice_get, slice_index}
use Rattle.std.specs.List.{list_all}
use Rattle.std.specs.Str.{IsUtf8}
use Rattle.std.proofs.lemmas.Bool.Decides.{nat_tests}
use Rattle.std.proofs.lemmas.Option.{slice_get_within, slice_get-get_or}
use Rattle.std.proofs.lemmas.Str.{IsUtf8-from_ascii}
use Rattle.session_script.specs.Words.{is_file, are_files, is_empty}

-- both parts of a test that passes
left : (a b : Bool) → a && b ≡ true → a ≡ true
left true b h = refl
left false b h = absurd cc

right : (a b : Bool) → a && b ≡ true → b ≡ true
right true b h = h
right false b h = absurd cc

abbrev is_printed : ℕ → Bool
is_printed b = nat_le 33 b && nat_le b 126

printed_below : (bs : List ℕ) (i : ℕ) → list_all is_printed bs ≡ true → slice_index bs i < 128
printed_below [] i h = omega arith
printed_below (b ∷ bs) zero h =
    let printed : is_printed b ≡ true = left (is_printed b) (list_all is_printed bs) h in
    let low : nat_le b 126 ≡ true = right (nat_le 33 b) (nat_le b 126) printed in
    grind (arith, nat_tests)
printed_below (b ∷ bs) (suc i) h = printed_below bs i (right (is_printed b) (list_all is_printed bs) h)

pub IsUtf8-file : (file : List ℕ) → is_file file ≡ true → IsUtf8 file
IsUtf8-file file h = IsUtf8-from_ascii file (λ i. printed_below file i (right (not (is_empty file)) (list_all is_printed file) h))

all_at : (files : List (List ℕ)) (k : ℕ) (d : List ℕ) → are_files files ≡ true → k < length files → is_file (get_or files k d) ≡ true
all_at [] k d all within = absurd (omega arith)
all_at (f ∷ files) zero d all within = left (is_file f) (are_files files) all
all_at (f ∷ files) (suc k) d all within = all_at files k d (right (is_file f) (are_files files) all) (omega arith)

pub file_at : (files : List (List ℕ)) (file : List ℕ) (k : ℕ) → are_files files ≡ true → slice_get files k ≡ Some file → is_file file ≡ true
file_at files file k all there =
    let within = slice_get_within files k file there in
    let read : get_or files k file ≡ file = cc (slice_get-get_or files k file within) in
    rw (← read) (all_at files k file all within)
