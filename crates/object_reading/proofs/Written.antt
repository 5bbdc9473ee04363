-- A file that was written holds its parts.
use Rattle.std.proofs.Common.{◌≡◌, ℕ, suc, ◌+◌, ◌*◌, ◌^◌, ◌<◌, ◌≤◌, List, ◌++◌, length, take, refl, sym, subst, length-append, arith}
use Rattle.std.proofs.lemmas.List.{length-take-le}
use Rattle.elf_read.specs.File.{File, file_of}
use Rattle.elf_write.specs.Bytes.{filled, gap, zeros, string_place}
use Rattle.elf_write.specs.Parts.{Part}
use Rattle.elf_write.specs.Files.{Written, nothing_written, header_bytes, with_part, with_parts, finished, file_header_bytes}
use Rattle.object_reading.specs.Places.{Stands, Ended, Holds, no_part, part}
use Rattle.object_reading.proofs.Standing.{stands_left, stands_right, stands_whole, stands_within, stands_moved, stands_in}
use Rattle.object_reading.proofs.Entries.{HeaderFits, section_header-written}
use Rattle.object_reading.proofs.Head.{HeadIs, length-file_header_bytes, file_header-written}
use Rattle.object_reading.proofs.Texts.{string_first, string_place-le, string_ended}
use Rattle.object_reading.proofs.Growth.{Grows, grows_parts, grows_at, grows_before, length-headers}
use Rattle.object_reading.proofs.Sections.{section_from}

abbrev pub all_written : List Part → Written
all_written ps = with_parts ps nothing_written

-- what is written before a part
abbrev before : List Part → ℕ → Written
before ps k = with_parts (take k ps) nothing_written

abbrev place_of : List Part → ℕ → ℕ
place_of ps k = 64 + length (filled (before ps k).bytes)

abbrev start_of : List Part → ℕ → ℕ
start_of ps k = string_place (part ps k).name (before ps k).names

-- ---- what stands in what was written

filled-le : (xs : List ℕ) → length xs ≤ length (filled xs)
filled-le xs = omega (arith, length-append xs (zeros (gap (length xs))))

module _ (ps : List Part) (k : ℕ) (lt : k < length ps) where
  grown : Grows (with_part (part ps k) (before ps k)) (all_written ps)
  grown = grows_at ps k no_part nothing_written lt

  bytes_there : Stands (all_written ps).bytes (0 + length (filled (before ps k).bytes)) (part ps k).bytes
  bytes_there = stands_right (filled (before ps k).bytes) (part ps k).bytes grown.bytes

  header_there : Stands (all_written ps).headers (64 + 64 * k) (header_bytes (start_of ps k) (place_of ps k) (part ps k).header)
  header_there =
      let row : List ℕ = header_bytes (start_of ps k) (place_of ps k) (part ps k).header in
      let len = length-headers (take k ps) nothing_written in
      let taken = length-take-le k ps (omega arith) in
      stands_moved (64 + 64 * k) (stands_right (before ps k).headers row grown.headers) (omega (arith, len, taken))

  name_there : Ended (all_written ps).names (start_of ps k) (part ps k).name
  name_there = string_ended (part ps k).name (before ps k).names (grows_parts ps nothing_written).names grown.names

  start_in : start_of ps k ≤ length (all_written ps).names
  start_in =
      let whole = stands_in (stands_within grown.names (string_first (part ps k).name (before ps k).names)) in
      omega (arith, whole, string_place-le (part ps k).name (before ps k).names)

  ends_in : place_of ps k + length (part ps k).bytes ≤ 64 + length (filled (all_written ps).bytes)
  ends_in = omega (arith, stands_in bytes_there, filled-le (all_written ps).bytes)

ends_before : (ps : List Part) (j k : ℕ) → j < k → k < length ps → place_of ps j + length (part ps j).bytes ≤ place_of ps k
ends_before ps j k lt inside =
    let g = grows_before ps j k no_part nothing_written lt (omega arith) in
    let there = stands_in (stands_right (filled (before ps j).bytes) (part ps j).bytes g.bytes) in
    omega (arith, there, filled-le (before ps k).bytes)

-- ---- the three parts of a file

module _ (f : File) (head body table : List ℕ) (is : f.bytes ≡ head ++ body ++ table) where
  whole_there : Stands f.bytes 0 (head ++ body ++ table)
  whole_there = subst (λ l. Stands f.bytes 0 l) is (stands_whole f.bytes)

  head_there : Stands f.bytes 0 head
  head_there = stands_left head body (stands_left (head ++ body) table whole_there)

  body_there : (n : ℕ) → length head ≡ n → Stands f.bytes n body
  body_there n len = stands_moved n (stands_right head body (stands_left (head ++ body) table whole_there)) (omega (arith, len))

  table_there : (n m : ℕ) → length head ≡ n → n + length body ≡ m → Stands f.bytes m table
  table_there n m len e = stands_moved m (stands_right (head ++ body) table whole_there) (omega (arith, len, e, length-append head body))

pub holds_parts : (f : File) (ps : List Part) → f.bytes ≡ finished (length ps) (all_written ps) → f.table ≡ 64 + length (filled (all_written ps).bytes) → f.count ≡ suc (length ps) → f.names ≡ length ps →
    length f.bytes < 2 ^ 32 → length (all_written ps).names < 2 ^ 32 → ((k : ℕ) → k < length ps → HeaderFits (part ps k)) → Holds f ps (all_written ps).names
holds_parts f ps is table_is count_is names_are small names_in fits =
    let head : List ℕ = file_header_bytes (64 + length (filled (all_written ps).bytes)) (length ps) in
    let body : List ℕ = filled (all_written ps).bytes in
    let table : List ℕ = (all_written ps).headers in
    let len : length head ≡ 64 = length-file_header_bytes (64 + length (filled (all_written ps).bytes)) (length ps) in
    let bytes_at : Stands f.bytes 64 (all_written ps).bytes = stands_left (all_written ps).bytes (zeros (gap (length (all_written ps).bytes))) (body_there f head body table is 64 len) in
    let table_at : Stands f.bytes f.table table = table_there f head body table is 64 f.table len (sym table_is) in
    let rows = length-headers ps nothing_written in
    let table_in : f.table + length table ≤ length f.bytes = stands_in table_at in
    let inside : f.table + 64 * f.count ≤ length f.bytes = omega (arith, table_in, rows, count_is) in
    let below = λ (k : ℕ) (lt : k < length ps). let e = ends_in ps k lt in let here : place_of ps k + length (part ps k).bytes ≤ f.table = omega (arith, e, table_is) in here in
    record {
      start = start_of ps;
      place = place_of ps;
      count_is = count_is;
      names_are = names_are;
      inside = inside;
      section_is = λ k lt.
          section_from f k (start_of ps k) (place_of ps k) (part ps k) (omega (arith, count_is))
          (section_header-written (start_of ps k) (place_of ps k) (part ps k) (omega (arith, start_in ps k lt, names_in)) (omega (arith, below k lt, inside, small)) (fits k lt)
          (stands_moved (f.table + 64 * suc k) (stands_within table_at (header_there ps k lt)) (omega arith)));
      stands = λ k lt. stands_moved (place_of ps k) (stands_within bytes_at (bytes_there ps k lt)) (omega arith);
      above = λ k. omega arith;
      ordered = λ j k lt in_. ends_before ps j k lt in_;
      below = below;
      named = λ k lt. name_there ps k lt;
    }

-- no part is longer than the file
pub part_short : (ps : List Part) (last k : ℕ) → k < length ps → length (part ps k).bytes ≤ length (finished last (all_written ps))
part_short ps last k lt =
    let head : List ℕ = file_header_bytes (64 + length (filled (all_written ps).bytes)) last in
    let body : List ℕ = filled (all_written ps).bytes in
    let table : List ℕ = (all_written ps).headers in
    omega (arith, ends_in ps k lt, length-file_header_bytes (64 + length (filled (all_written ps).bytes)) last, length-append (head ++ body) table, length-append head body)

-- ---- the header of a file that was written

pub head_of_written : (bytes : List ℕ) (ps : List Part) → bytes ≡ finished (length ps) (all_written ps) → length bytes < 2 ^ 32 → length ps + 1 < 2 ^ 16 →
    HeadIs bytes (64 + length (filled (all_written ps).bytes)) (length ps)
unfolding file_of
head_of_written bytes ps is small few =
    let table : ℕ = 64 + length (filled (all_written ps).bytes) in
    let head : List ℕ = file_header_bytes table (length ps) in
    let body : List ℕ = filled (all_written ps).bytes in
    let len = length-file_header_bytes table (length ps) in
    let rows = stands_in (table_there (file_of bytes) head body (all_written ps).headers is 64 table len refl) in
    file_header-written table (length ps) (omega (arith, rows, small)) few (head_there (file_of bytes) head body (all_written ps).headers is)
