-- The memory of a run: the ranges of an image, with copies of those that were written, and the stack.
use Rattle.std.specs.Prelude.{◌≡◌, ◌≢◌, ◌⊎◌, ℕ, zero, suc, Option, Some, None, ◌+◌, ◌-◌, ◌*◌, ◌/◌, ◌%◌, ◌^◌, ◌≤◌, ◌<◌, List, [], ◌∷◌, ◌++◌, length, map, take, drop, replicate, slice_get, slice_set}
use Rattle.orc_ids.specs.declared.limits.TheConstants.{CODE_END}
use Rattle.code_memory.specs.Apart.{AreApart}
use Rattle.code_memory.specs.Mapped.{byte_at, AreSegments}
use Rattle.code_memory.specs.declared.image.Segment.{Segment}
use Rattle.exec_run.specs.declared.host.TheConstants.{STACK_START, STACK_END, STACK_SIZE}
use Rattle.exec_run.specs.Bytes.{bytes_from}

-- a range of an image, and the place of its copy in the pool, where it has one
pub record Region : Type 0 where
  pub base : ℕ
  pub bytes : List ℕ
  pub copy : Option ℕ

abbrev pub region_of : Segment → Option ℕ → Region
region_of s copy = record { base = s.base; bytes = s.bytes; copy = copy }

-- the ranges of an image with their places, of which those past the end of the list have none
abbrev pub regions : List Segment → List (Option ℕ) → List Region
regions [] places = []
regions (s ∷ ss) [] = region_of s None ∷ regions ss []
regions (s ∷ ss) (p ∷ places) = region_of s p ∷ regions ss places

-- the places, with one for the copy of range k
abbrev pub with_place : List (Option ℕ) → ℕ → ℕ → List (Option ℕ)
with_place [] zero place = Some place ∷ []
with_place [] (suc k) place = None ∷ with_place [] k place
with_place (p ∷ places) zero place = Some place ∷ places
with_place (p ∷ places) (suc k) place = p ∷ with_place places k place

-- the bytes of a range: those of the image, or those of its copy in the pool
abbrev pub bytes_of : List ℕ → Option ℕ → List ℕ → List ℕ
bytes_of pool None bytes = bytes
bytes_of pool (Some place) bytes = take (length bytes) (drop place pool)

-- a range as its base and its bytes
abbrev pub shown : List ℕ → Region → Segment
shown pool r = record { base = r.base; bytes = bytes_of pool r.copy r.bytes }

abbrev pub all_shown : List ℕ → List Region → List Segment
all_shown pool rs = map (shown pool) rs

-- the ranges of an image as they are seen
abbrev pub seen : List Segment → List (Option ℕ) → List ℕ → List Segment
seen ss places pool = all_shown pool (regions ss places)

-- how many bytes a range adds to those that have no copy
abbrev pub uncopied : Option ℕ → ℕ → ℕ
uncopied None count = count
uncopied (Some place) count = 0

-- how many bytes of the ranges have no copy
unfoldable pub all_uncopied : List Region → ℕ
all_uncopied [] = 0
all_uncopied (r ∷ rs) = uncopied r.copy (length r.bytes) + all_uncopied rs

-- one stretch of bytes ends before the other begins
abbrev pub AreApartFrom : ℕ → ℕ → ℕ → ℕ → Type 0
AreApartFrom p m q n = (p + m ≤ q) ⊎ (q + n ≤ p)

-- each copy is in the pool and apart from the others, and the pool has room for the bytes that have none
pub record AreCopied (rs : List Region) (pool : List ℕ) (capacity : ℕ) : Type 0 where
  pub within : (k place : ℕ) (r : Region) → slice_get rs k ≡ Some r → r.copy ≡ Some place → place + length r.bytes ≤ length pool
  pub apart : (j k p q : ℕ) (r s : Region) → j ≢ k → slice_get rs j ≡ Some r → slice_get rs k ≡ Some s → r.copy ≡ Some p → s.copy ≡ Some q → AreApartFrom p (length r.bytes) q (length s.bytes)
  pub room : length pool + all_uncopied rs ≤ capacity
  pub small : length pool + all_uncopied rs ≤ CODE_END
  pub segments : AreSegments (all_shown pool rs)

-- the copies of an image's ranges, with room for the places of all
pub record HasPlaces (ss : List Segment) (places : List (Option ℕ)) (most : ℕ) (pool : List ℕ) (capacity : ℕ) : Type 0 where
  pub listed : length ss ≤ most
  pub copied : AreCopied (regions ss places) pool capacity

-- the bytes kept of a stack, and room for all of them
pub record HasRoom (bytes : List ℕ) (capacity : ℕ) : Type 0 where
  pub long : length bytes ≤ STACK_SIZE
  pub room : STACK_SIZE ≤ capacity

-- so many bytes, of which those at the end are these and the others are zero
unfoldable pub filled : ℕ → List ℕ → List ℕ
filled count bytes = replicate (count - length bytes) 0 ++ bytes

-- the ranges, with the stack above them
abbrev pub with_top : List Segment → List ℕ → List Segment
with_top ss bytes = ss ++ record { base = STACK_START; bytes = bytes } ∷ []

-- ranges in code memory, and the bytes of a stack
pub record HasTop (ss : List Segment) (bytes : List ℕ) : Type 0 where
  pub apart : AreSegments ss
  pub long : length bytes ≡ STACK_SIZE

-- the ranges rise and are apart, up to the end of the stack
abbrev pub AreRegions : List Segment → Type 0
AreRegions ss = AreApart (λ s. s.base) (λ s. length s.bytes) 0 ss STACK_END

-- range k has the address
pub record IsIn (ss : List Segment) (k at : ℕ) : Type 0 where
  pub segment : Segment
  pub there : slice_get ss k ≡ Some segment
  pub low : segment.base ≤ at
  pub high : at < segment.base + length segment.bytes

-- what stands in bytes from a place on, one byte at least
pub record IsFrom (bytes : List ℕ) (place : ℕ) (part : List ℕ) : Type 0 where
  pub some : 0 < length part
  pub within : place + length part ≤ length bytes
  pub same : (j : ℕ) → j < length part → slice_get part j ≡ slice_get bytes (place + j)

-- what stands in a range from the address on
pub record IsPart (ss : List Segment) (at : ℕ) (part : List ℕ) : Type 0 where
  pub range : ℕ
  pub segment : Segment
  pub there : slice_get ss range ≡ Some segment
  pub low : segment.base ≤ at
  pub from : IsFrom segment.bytes (at - segment.base) part

-- bytes that are mapped from the address on, one at least
pub record IsRest (ss : List Segment) (at : ℕ) (bytes : List ℕ) : Type 0 where
  pub some : 0 < length bytes
  pub mapped : bytes_from (byte_at ss) at (length bytes) ≡ Some bytes
  pub below : at + length bytes ≤ STACK_END

-- the bytes from the address on, and zero bytes up to eight after them
pub record IsGathered (ss : List Segment) (at width : ℕ) (bytes : List ℕ) : Type 0 where
  pub mapped : bytes_from (byte_at ss) at width ≡ Some (take width bytes)
  pub zeros : drop width bytes ≡ replicate (8 - width) 0
  pub long : length bytes ≡ 8

-- so many zero bytes
pub record AreZeros (bytes : List ℕ) (count : ℕ) : Type 0 where
  pub long : length bytes ≡ count
  pub zero_at : (k : ℕ) → k < count → slice_get bytes k ≡ Some 0

-- the number that bytes make, the lowest first
abbrev pub number_of : List ℕ → ℕ
number_of [] = 0
number_of (byte ∷ bytes) = byte + 2 ^ 8 * number_of bytes

-- the bytes with the `width` low bytes of a value from a place on, the lowest first
unfoldable pub with_number : List ℕ → ℕ → ℕ → ℕ → List ℕ
with_number bytes place zero value = bytes
with_number bytes place (suc width) value = with_number (slice_set bytes place (value % 2 ^ 8)) (place + 1) width (value / 2 ^ 8)

-- a value is written in bytes, from a place on
pub record IsPutAt (old new : List ℕ) (place width value : ℕ) : Type 0 where
  pub fits : place + width ≤ length old
  pub written : new ≡ with_number old place width value

-- a value is written in range k, from the address on
pub record IsPut (old new : List Segment) (k at width value : ℕ) : Type 0 where
  pub segment : Segment
  pub there : slice_get old k ≡ Some segment
  pub low : segment.base ≤ at
  pub high : at < segment.base + length segment.bytes
  pub fits : at - segment.base + width ≤ length segment.bytes
  pub written : new ≡ slice_set old k (record segment { bytes = with_number segment.bytes (at - segment.base) width value })

-- a byte is written in range k, at the address
pub record IsSet (old new : List Segment) (k at byte : ℕ) : Type 0 where
  pub segment : Segment
  pub there : slice_get old k ≡ Some segment
  pub low : segment.base ≤ at
  pub high : at < segment.base + length segment.bytes
  pub written : new ≡ slice_set old k (record segment { bytes = slice_set segment.bytes (at - segment.base) byte })
