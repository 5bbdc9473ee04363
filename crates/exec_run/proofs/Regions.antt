-- What the ranges of a memory have at an address.
use Rattle.std.proofs.Common.{◌≡◌, ◌↔◌, ◌⊎◌, ⊎_elim, inl, inr, ℕ, true, false, Option, Some, None, ◌+◌, ◌-◌, ◌^◌, ◌<◌, ◌≤◌, List, [], ◌∷◌, length, drop, get_or, zero, suc, refl, ap, sym, ◌∙◌, cond, subst, arith, length-drop}
use Rattle.std.specs.Prelude.{slice_get, nat_lt, option_map}
use Rattle.std.proofs.Math.Dec.{leb}
use Rattle.std.proofs.lemmas.Bool.Decides.{leb_tells}
use Rattle.list_laws.proofs.Lists.{some_below}
use Rattle.code_memory.specs.Apart.{AreApart}
use Rattle.code_memory.specs.Mapped.{byte_at, AreSegments}
use Rattle.code_memory.specs.declared.image.Segment.{Segment}
use Rattle.orc_ids.specs.declared.limits.TheConstants.{CODE_START, CODE_END}
use Rattle.exec_run.specs.declared.host.TheConstants.{STACK_END}
use Rattle.rv_hart.specs.Map.{Map, byte_of}
use Rattle.exec_run.specs.Bytes.{bytes_from, before}
use Rattle.exec_run.specs.Regions.{AreRegions, IsIn, IsFrom, IsPart, IsRest}

-- ranges from an address on, up to another
abbrev pub Rise : ℕ → List Segment → ℕ → Type 0
Rise low ss high = AreApart (λ (s : Segment). s.base) (λ (s : Segment). length s.bytes) low ss high

-- where a range ends
abbrev pub end_of : Segment → ℕ
end_of s = s.base + length s.bytes

pub below_is : (a b : ℕ) → a < b → nat_lt a b ≡ true
below_is a b h =
    ⊎_elim (λ (e : (leb (suc a) b ≡ true) × (suc a ≤ b)). e.0) (λ (e : (leb (suc a) b ≡ false) × (b < suc a)). absurd (omega (arith, e.1))) (leb_tells (suc a) b)

pub not_below : (a b : ℕ) → b ≤ a → nat_lt a b ≡ false
not_below a b h =
    ⊎_elim (λ (e : (leb (suc a) b ≡ true) × (suc a ≤ b)). absurd (omega (arith, e.1))) (λ (e : (leb (suc a) b ≡ false) × (b < suc a)). e.0) (leb_tells (suc a) b)

-- the byte at an address before, in and after the first range
pub before_first : (s : Segment) (ss : List Segment) (at : ℕ) → at < s.base → byte_at (s ∷ ss) at ≡ byte_at ss at
before_first s ss at h = ap (λ b. cond b (byte_at ss at) (cond (nat_lt at (end_of s)) (slice_get s.bytes (at - s.base)) (byte_at ss at))) (below_is at s.base h)

pub in_first : (s : Segment) (ss : List Segment) (at : ℕ) → s.base ≤ at → at < end_of s → byte_at (s ∷ ss) at ≡ slice_get s.bytes (at - s.base)
in_first s ss at low high =
    ap (λ b. cond b (byte_at ss at) (cond (nat_lt at (end_of s)) (slice_get s.bytes (at - s.base)) (byte_at ss at))) (not_below at s.base low)
    ∙ ap (λ b. cond b (slice_get s.bytes (at - s.base)) (byte_at ss at)) (below_is at (end_of s) high)

pub after_first : (s : Segment) (ss : List Segment) (at : ℕ) → end_of s ≤ at → byte_at (s ∷ ss) at ≡ byte_at ss at
after_first s ss at h =
    ap (λ b. cond b (byte_at ss at) (cond (nat_lt at (end_of s)) (slice_get s.bytes (at - s.base)) (byte_at ss at))) (not_below at s.base (omega arith))
    ∙ ap (λ b. cond b (slice_get s.bytes (at - s.base)) (byte_at ss at)) (not_below at (end_of s) h)

-- each range is within the bounds of all
pub bounds : (low : ℕ) (ss : List Segment) (high k : ℕ) (s : Segment) → Rise low ss high → slice_get ss k ≡ Some s → (low ≤ s.base) × (0 < length s.bytes) × (end_of s ≤ high)
bounds low [] high k s rise there = absurd cc
bounds low (t ∷ ss) high zero s rise there =
    let same : t ≡ s = cc in
    subst (λ (x : Segment). (low ≤ x.base) × (0 < length x.bytes) × (end_of x ≤ high)) same (rise.0, rise.1, least (end_of t) ss high rise.2)
  where
    least : (low : ℕ) (ss : List Segment) (high : ℕ) → Rise low ss high → low ≤ high
    least low [] high rise = rise
    least low (s ∷ ss) high rise = omega (arith, rise.0, rise.1, least (end_of s) ss high rise.2)
bounds low (t ∷ ss) high (suc k) s rise there =
    let rest = bounds (end_of t) ss high k s rise.2 there in
    (omega (arith, rise.0, rest.0), rest.1, rest.2)

-- an earlier range ends before a later one begins
pub ordered : (low : ℕ) (ss : List Segment) (high k m : ℕ) (s t : Segment) → Rise low ss high → k < m → slice_get ss k ≡ Some s → slice_get ss m ≡ Some t → end_of s ≤ t.base
ordered low [] high k m s t rise less first second = absurd cc
ordered low (u ∷ ss) high k zero s t rise less first second = absurd (omega arith)
ordered low (u ∷ ss) high zero (suc m) s t rise less first second =
    let same : u ≡ s = cc in
    subst (λ (x : Segment). end_of x ≤ t.base) same (bounds (end_of u) ss high m t rise.2 second).0
ordered low (u ∷ ss) high (suc k) (suc m) s t rise less first second = ordered (end_of u) ss high k m s t rise.2 (omega arith) first second

-- the byte at an address that a range has
pub in_range : (low : ℕ) (ss : List Segment) (high k : ℕ) (s : Segment) (at : ℕ) → Rise low ss high → slice_get ss k ≡ Some s → s.base ≤ at → at < end_of s → byte_at ss at ≡ slice_get s.bytes (at - s.base)
in_range low [] high k s at rise there from below = absurd cc
in_range low (t ∷ ss) high zero s at rise there from below =
    let same : t ≡ s = cc in
    subst (λ (x : Segment). x.base ≤ at → at < end_of x → byte_at (t ∷ ss) at ≡ slice_get x.bytes (at - x.base)) same (in_first t ss at) from below
in_range low (t ∷ ss) high (suc k) s at rise there from below =
    let later = bounds (end_of t) ss high k s rise.2 there in
    after_first t ss at (omega (arith, later.0)) ∙ in_range (end_of t) ss high k s at rise.2 there from below

-- an address that no range has
abbrev pub Misses : List Segment → ℕ → Type 0
Misses ss at = (k : ℕ) (s : Segment) → slice_get ss k ≡ Some s → (at < s.base) ⊎ (end_of s ≤ at)

pub in_none : (ss : List Segment) (at : ℕ) → Misses ss at → byte_at ss at ≡ None
in_none [] at h = refl
in_none (s ∷ ss) at h =
    let rest : byte_at ss at ≡ None = in_none ss at (λ k t there. h (suc k) t there) in
    ⊎_elim (λ low. before_first s ss at low ∙ rest) (λ high. after_first s ss at high ∙ rest) (h 0 s refl)

-- bounds that are wider
pub wider : (low low' : ℕ) (ss : List Segment) (high high' : ℕ) → low' ≤ low → high ≤ high' → Rise low ss high → Rise low' ss high'
wider low low' [] high high' less more rise = omega arith
wider low low' (s ∷ ss) high high' less more rise = (omega (arith, rise.0), rise.1, wider (end_of s) (end_of s) ss high high' (omega arith) more rise.2)

pub segments_rise : (ss : List Segment) → AreSegments ss → AreRegions ss
segments_rise ss apart = wider CODE_START 0 ss CODE_END STACK_END (omega arith) (omega arith) apart

-- what halving keeps: the ranges below end before the address, those above begin after it
pub record IsSearched (ss : List Segment) (at low high : ℕ) : Type 0 where
  pub below : (k : ℕ) (s : Segment) → k < low → slice_get ss k ≡ Some s → end_of s ≤ at
  pub above : (k : ℕ) (s : Segment) → high ≤ k → slice_get ss k ≡ Some s → at < s.base

pub inside : (ss : List Segment) (k : ℕ) (s : Segment) → slice_get ss k ≡ Some s → k < length ss
inside [] k s there = absurd cc
inside (t ∷ ss) zero s there = omega arith
inside (t ∷ ss) (suc k) s there = omega (arith, inside ss k s there)

pub search_starts : (ss : List Segment) (at : ℕ) → IsSearched ss at 0 (length ss)
search_starts ss at = record { below = λ k s less there. absurd (omega arith); above = λ k s more there. absurd (omega (arith, inside ss k s there)) }

pub search_up : (ss : List Segment) (at low high middle : ℕ) (m : Segment) → AreRegions ss → IsSearched ss at low high → slice_get ss middle ≡ Some m → end_of m ≤ at → IsSearched ss at (middle + 1) high
search_up ss at low high middle m rise searched there ends = record {
  below = λ k s less here.
      ⊎_elim (λ (e : (leb (suc k) middle ≡ true) × (suc k ≤ middle)). let before = ordered 0 ss STACK_END k middle s m rise (omega (arith, e.1)) here there in omega (arith, before, bounds 0 ss STACK_END middle m rise there))
      (λ (e : (leb (suc k) middle ≡ false) × (middle < suc k)).
      let same : k ≡ middle = omega (arith, e.1) in
      let first : slice_get ss middle ≡ Some s = sym (ap (slice_get ss) same) ∙ here in
      let one : m ≡ s = cc in
      subst (λ (x : Segment). end_of x ≤ at) one ends)
      (leb_tells (suc k) middle);
  above = searched.above;
}

pub search_down : (ss : List Segment) (at low high middle : ℕ) (m : Segment) → AreRegions ss → IsSearched ss at low high → slice_get ss middle ≡ Some m → at < m.base → IsSearched ss at low middle
search_down ss at low high middle m rise searched there starts = record {
  below = searched.below;
  above = λ k s more here.
      ⊎_elim (λ (e : (leb (suc middle) k ≡ true) × (suc middle ≤ k)). let after = ordered 0 ss STACK_END middle k m s rise (omega (arith, e.1)) there here in omega (arith, after))
      (λ (e : (leb (suc middle) k ≡ false) × (k < suc middle)).
      let same : k ≡ middle = omega (arith, e.1) in
      let first : slice_get ss middle ≡ Some s = sym (ap (slice_get ss) same) ∙ here in
      let one : m ≡ s = cc in
      subst (λ (x : Segment). at < x.base) one starts)
      (leb_tells (suc middle) k);
}

pub search_ends : (ss : List Segment) (at low high : ℕ) → IsSearched ss at low high → high ≤ low → byte_at ss at ≡ None
search_ends ss at low high searched met = in_none ss at (λ k s there.
    ⊎_elim (λ (e : (leb (suc k) low ≡ true) × (suc k ≤ low)). inr (searched.below k s (omega (arith, e.1)) there))
    (λ (e : (leb (suc k) low ≡ false) × (low < suc k)). inl (searched.above k s (omega (arith, e.1)) there))
    (leb_tells (suc k) low))

-- bytes that are mapped one after another
pub bytes_are : (map : Map) (at : ℕ) (bytes : List ℕ) → ((j : ℕ) → j < length bytes → byte_of map (at + j) ≡ slice_get bytes j) → bytes_from map at (length bytes) ≡ Some bytes
unfolding bytes_from
bytes_are map at [] each = refl
bytes_are map at (byte ∷ bytes) each =
    let first : byte_of map at ≡ Some byte = ap (byte_of map) (let e : at ≡ at + 0 = omega arith in e) ∙ each 0 (omega arith) in
    let others : bytes_from map (at + 1) (length bytes) ≡ Some bytes =
    bytes_are map (at + 1) bytes (λ j less. ap (byte_of map) (let e : at + 1 + j ≡ at + suc j = omega arith in e) ∙ each (suc j) (omega arith)) in
    ap (λ b. before b (bytes_from map (at + 1) (length bytes))) first ∙ ap (before (Some byte)) others

get-drop : (bytes : List ℕ) (off j : ℕ) → slice_get (drop off bytes) j ≡ slice_get bytes (off + j)
get-drop bytes zero j = ap (slice_get bytes) (let e : j ≡ zero + j = omega arith in e)
get-drop [] (suc off) j = refl
get-drop (b ∷ bytes) (suc off) j = get-drop bytes off j ∙ ap (slice_get (b ∷ bytes)) (let e : suc (off + j) ≡ suc off + j = omega arith in e)

-- what a list has from a place on
pub from_drop : (bytes : List ℕ) (place : ℕ) (rest : List ℕ) → place < length bytes → rest ≡ drop place bytes → IsFrom bytes place rest
from_drop bytes place rest less is =
    let long : length rest + place ≡ length bytes = omega (arith, ap length is, length-drop place bytes) in
    record { some = omega arith; within = omega arith; same = λ j _. ap (λ bs. slice_get bs j) is ∙ get-drop bytes place j }

-- what a range has from an address on
pub part_rest : (ss : List Segment) (at : ℕ) (rest : List ℕ) → AreRegions ss → IsPart ss at rest → IsRest ss at rest
part_rest ss at rest rise part =
    let s = part.segment in
    let low : s.base ≤ at = part.low in
    let some : 0 < length rest = part.from.some in
    let fits : at - s.base + length rest ≤ length s.bytes = part.from.within in
    let within = bounds 0 ss STACK_END part.range s rise part.there in
    record {
      some = some;
      below = omega (arith, within.2);
      mapped = bytes_are (byte_at ss) at rest (λ j less.
          ap (λ b. cond b (byte_at ss (at + j)) None) (below_is (at + j) (2 ^ 64) (omega (arith, within.2)))
          ∙ in_range 0 ss STACK_END part.range s (at + j) rise part.there (omega arith) (omega arith)
          ∙ ap (slice_get s.bytes) (let e : at + j - s.base ≡ at - s.base + j = omega arith in e)
          ∙ sym (part.from.same j less));
    }

pub rest_is : (ss : List Segment) (k : ℕ) (s : Segment) (at : ℕ) (rest : List ℕ) → AreRegions ss → slice_get ss k ≡ Some s → s.base ≤ at → at < end_of s → rest ≡ drop (at - s.base) s.bytes → IsRest ss at rest
rest_is ss k s at rest rise there low high is =
    part_rest ss at rest rise (record { range = k; segment = s; there = there; low = low; from = from_drop s.bytes (at - s.base) rest (omega arith) is })

pub not_less : (a b : ℕ) → (a < b → ⊥) → b ≤ a
not_less a b never =
    ⊎_elim (λ (e : (leb (suc a) b ≡ true) × (suc a ≤ b)). absurd (never (omega (arith, e.1)))) (λ (e : (leb (suc a) b ≡ false) × (b < suc a)). omega (arith, e.1)) (leb_tells (suc a) b)

-- the base and the bytes that were read are those of the range
pub base_of : (o : Option Segment) (s : Segment) (b : ℕ) → o ≡ Some s → option_map (λ (s : Segment). s.base) o ≡ Some b → s.base ≡ b
base_of o s b is read = let e : Some s.base ≡ Some b = sym (ap (option_map (λ (s : Segment). s.base)) is) ∙ read in cc

pub bytes_of_range : (o : Option Segment) (s : Segment) (bytes : List ℕ) → o ≡ Some s → option_map (λ (s : Segment). s.bytes) o ≡ Some bytes → s.bytes ≡ bytes
bytes_of_range o s bytes is read = let e : Some s.bytes ≡ Some bytes = sym (ap (option_map (λ (s : Segment). s.bytes)) is) ∙ read in cc

-- an item that was read is the one at its number
pub item_at : {X : Type 0} (xs : List X) (k : ℕ) (x : X) → k < length xs → x ≡ get_or xs k x → slice_get xs k ≡ Some x
item_at xs k x less is = read xs k x less ∙ ap Some (sym is)
  where
    read : {X : Type 0} (xs : List X) (k : ℕ) (d : X) → k < length xs → slice_get xs k ≡ Some (get_or xs k d)
    read [] k d less = absurd (omega arith)
    read (x ∷ xs) zero d less = refl
    read (x ∷ xs) (suc k) d less = read xs k d (omega arith)

-- a range that has the address, by what was read of it
pub is_in : (ss : List Segment) (k at base : ℕ) (bytes : List ℕ) → k < length ss → option_map (λ (s : Segment). s.base) (slice_get ss k) ≡ Some base → option_map (λ (s : Segment). s.bytes) (slice_get ss k) ≡ Some bytes → base ≤ at → at - base < length bytes → IsIn ss k at
is_in ss k at base bytes less b bs low high =
    let s = some_below ss k less in
    let p : s.0.base ≡ base = base_of (slice_get ss k) s.0 base s.1 b in
    let q : length s.0.bytes ≡ length bytes = ap length (bytes_of_range (slice_get ss k) s.0 bytes s.1 bs) in
    record { segment = s.0; there = s.1; low = omega arith; high = omega arith }

pub is_in_base : (ss : List Segment) (k at base : ℕ) → IsIn ss k at → option_map (λ (s : Segment). s.base) (slice_get ss k) ≡ Some base → base ≤ at
is_in_base ss k at base is b =
    let p : is.segment.base ≡ base = base_of (slice_get ss k) is.segment base is.there b in
    let low : is.segment.base ≤ at = is.low in omega arith

pub is_in_bytes : (ss : List Segment) (k at base : ℕ) (bytes : List ℕ) → IsIn ss k at → option_map (λ (s : Segment). s.base) (slice_get ss k) ≡ Some base → option_map (λ (s : Segment). s.bytes) (slice_get ss k) ≡ Some bytes → at - base < length bytes
is_in_bytes ss k at base bytes is b bs =
    let p : is.segment.base ≡ base = base_of (slice_get ss k) is.segment base is.there b in
    let q : length is.segment.bytes ≡ length bytes = ap length (bytes_of_range (slice_get ss k) is.segment bytes is.there bs) in
    let low : is.segment.base ≤ at = is.low in
    let high : at < is.segment.base + length is.segment.bytes = is.high in omega arith

-- the rest of the range that has the address
pub in_part : (ss : List Segment) (k at base : ℕ) (bytes rest : List ℕ) → IsIn ss k at → option_map (λ (s : Segment). s.base) (slice_get ss k) ≡ Some base → option_map (λ (s : Segment). s.bytes) (slice_get ss k) ≡ Some bytes → rest ≡ drop (at - base) bytes → IsPart ss at rest
in_part ss k at base bytes rest is b bs same =
    let s = is.segment in
    let p : s.base ≡ base = base_of (slice_get ss k) s base is.there b in
    let q : s.bytes ≡ bytes = bytes_of_range (slice_get ss k) s bytes is.there bs in
    let low : s.base ≤ at = is.low in
    let high : at < s.base + length s.bytes = is.high in
    record {
      range = k;
      segment = s;
      there = is.there;
      low = is.low;
      from = from_drop s.bytes (at - s.base) rest (omega arith) (same ∙ ap (λ x. drop (at - x) bytes) (sym p) ∙ ap (drop (at - s.base)) (sym q));
    }

pub has_is : (ss : List Segment) (k at base n : ℕ) (bytes : List ℕ) → k < length ss → option_map (λ (s : Segment). s.base) (slice_get ss k) ≡ Some base → option_map (λ (s : Segment). s.bytes) (slice_get ss k) ≡ Some bytes → base ≤ at → n ≡ length bytes → (nat_lt (at - base) n ≡ true) ↔ IsIn ss k at
has_is ss k at base n bytes less b bs low long = (
  λ (yes : nat_lt (at - base) n ≡ true). is_in ss k at base bytes less b bs low (⊎_elim (λ (e : (leb (suc (at - base)) n ≡ true) × (suc (at - base) ≤ n)). omega (arith, e.1))
      (λ (e : (leb (suc (at - base)) n ≡ false) × (n < suc (at - base))). absurd (let f : false ≡ true = sym e.0 ∙ yes in cc)) (leb_tells (suc (at - base)) n)),
  λ is. below_is (at - base) n (omega (arith, is_in_bytes ss k at base bytes is b bs)),
)
