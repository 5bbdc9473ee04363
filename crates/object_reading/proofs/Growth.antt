-- What is written stays where it is, as more parts are written.
use Rattle.std.proofs.Common.{◌≡◌, ℕ, zero, suc, ◌+◌, ◌*◌, ◌<◌, ◌≤◌, List, [], ◌∷◌, ◌++◌, length, get_or, take, drop, refl, sym, ap, subst, ◌∙◌, length-append, get_or-take, arith}
use Rattle.std.proofs.lemmas.List.{take-take, length-take-le}
use Rattle.elf_write.specs.Bytes.{filled, gap, zeros, string_place}
use Rattle.elf_write.specs.Parts.{Part}
use Rattle.elf_write.specs.Files.{Written, header_bytes, with_part, with_parts}
use Rattle.object_reading.specs.Places.{Stands}
use Rattle.object_reading.proofs.Standing.{stands_left, stands_first, stands_whole, stands_within}
use Rattle.object_reading.proofs.Entries.{length-header_bytes}
use Rattle.object_reading.proofs.Texts.{string_first}

pub record Grows (w v : Written) : Type 0 where
  pub bytes : Stands v.bytes 0 w.bytes
  pub headers : Stands v.headers 0 w.headers
  pub names : Stands v.names 0 w.names

grows_not : (w : Written) → Grows w w
grows_not w = record { bytes = stands_whole w.bytes; headers = stands_whole w.headers; names = stands_whole w.names }

grows_on : {u v w : Written} → Grows u v → Grows v w → Grows u w
grows_on a b = record { bytes = stands_within b.bytes a.bytes; headers = stands_within b.headers a.headers; names = stands_within b.names a.names }

grows_part : (p : Part) (w : Written) → Grows w (with_part p w)
grows_part p w = record {
  bytes = stands_left w.bytes (zeros (gap (length w.bytes))) (stands_first (filled w.bytes) p.bytes);
  headers = stands_first w.headers _;
  names = string_first p.name w.names;
}

pub grows_parts : (ps : List Part) (w : Written) → Grows w (with_parts ps w)
grows_parts [] w = grows_not w
grows_parts (p ∷ ps) w = grows_on (grows_part p w) (grows_parts ps (with_part p w))

-- ---- one of the parts

pub split_at : (ps : List Part) (k : ℕ) (d : Part) (w : Written) → k < length ps → with_parts ps w ≡ with_parts (drop (suc k) ps) (with_part (get_or ps k d) (with_parts (take k ps) w))
split_at [] k d w lt = absurd (omega arith)
split_at (p ∷ ps) zero d w lt = refl
split_at (p ∷ ps) (suc k) d w lt = split_at ps k d (with_part p w) (omega arith)

pub grows_at : (ps : List Part) (k : ℕ) (d : Part) (w : Written) → k < length ps → Grows (with_part (get_or ps k d) (with_parts (take k ps) w)) (with_parts ps w)
grows_at ps k d w lt = subst (λ v. Grows (with_part (get_or ps k d) (with_parts (take k ps) w)) v) (sym (split_at ps k d w lt)) (grows_parts (drop (suc k) ps) (with_part (get_or ps k d) (with_parts (take k ps) w)))

-- an earlier part stands in what is written before a later one
pub grows_before : (ps : List Part) (j k : ℕ) (d : Part) (w : Written) → j < k → k ≤ length ps → Grows (with_part (get_or ps j d) (with_parts (take j ps) w)) (with_parts (take k ps) w)
grows_before ps j k d w lt le =
    let inside : j < length (take k ps) = omega (arith, length-take-le k ps le) in
    let g = grows_at (take k ps) j d w inside in
    subst (λ p. Grows (with_part p (with_parts (take j ps) w)) (with_parts (take k ps) w)) (get_or-take k ps j d lt)
    (subst (λ qs. Grows (with_part (get_or (take k ps) j d) (with_parts qs w)) (with_parts (take k ps) w)) (take-take j k ps (omega arith)) g)

-- each part has an entry of the section table
pub length-headers : (ps : List Part) (w : Written) → length (with_parts ps w).headers ≡ length w.headers + 64 * length ps
length-headers [] w = omega arith
length-headers (p ∷ ps) w =
    let h : List ℕ = header_bytes (string_place p.name w.names) (64 + length (filled w.bytes)) p.header in
    let here : length (w.headers ++ h) ≡ length w.headers + 64 = length-append w.headers h ∙ ap (λ (n : ℕ). length w.headers + n) (length-header_bytes (string_place p.name w.names) (64 + length (filled w.bytes)) p) in
    let ih = length-headers ps (with_part p w) in
    omega (arith, ih, here)
