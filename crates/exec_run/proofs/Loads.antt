-- What is loaded from the ranges, and which addresses are mapped.
use Rattle.std.proofs.Common.{◌≡◌, ◌⊎◌, ⊎_elim, inl, inr, ℕ, Bool, true, false, Option, Some, None, ◌+◌, ◌-◌, ◌/◌, ◌%◌, ◌^◌, ◌<◌, ◌≤◌, List, [], ◌∷◌, length, set, take, drop, get_or, zero, suc, refl, ap, sym, ◌∙◌, cond, subst, arith, length-set, length-drop}
use Rattle.std.specs.Prelude.{replicate, option_map, slice_get, nat_lt, is_some, IsSome, IfNone, IfSome, ◌==◌}
use Rattle.std.specs.Bool.{OnTrue, OnFalse}
use Rattle.std.proofs.lemmas.List.{take_all}
use Rattle.std.proofs.lemmas.Grind.{take-set_at}
use Rattle.list_laws.proofs.Options.{not_there}
use Rattle.rv_hart.specs.Map.{Map, byte_of, read, stored, with_byte}
use Rattle.code_memory.specs.Mapped.{byte_at}
use Rattle.code_memory.specs.declared.image.Segment.{Segment}
use Rattle.exec_run.specs.Bytes.{bytes_from}
use Rattle.exec_run.specs.Regions.{AreRegions, IsRest, IsGathered, IsPut, number_of}
use Rattle.exec_run.proofs.Regions.{end_of, rest_is, not_less, not_below}
use Rattle.exec_run.proofs.Spans.{bytes_begin, bytes_more, bytes_none, bytes_take, read-bytes, number_take}

pub if_none : {T : Type 0} (o : Option T) (P : Type 0) → P → IfNone o P
if_none None P h = h
if_none (Some x) P h = tt

pub byte_none : (map : Map) (at : ℕ) → map at ≡ None → byte_of map at ≡ None
byte_none map at none = elim (nat_lt at (2 ^ 64)) as (λ b. cond b (map at) None ≡ None) [ true ↦ none | false ↦ refl ]

pub byte_past : (map : Map) (at : ℕ) → 2 ^ 64 ≤ at → byte_of map at ≡ None
byte_past map at past = ap (λ b. cond b (map at) None) (not_below at (2 ^ 64) past)

-- a read where the first byte isn't mapped, where one isn't, and where all are
pub load_first : (map : Map) (at n : ℕ) → map at ≡ None → 0 < n → read map at n ≡ None
load_first map at n none some =
    read-bytes map at n
    ∙ ap (option_map number_of) (bytes_none map at 0 n some (ap (byte_of map) (let e : at + 0 ≡ at = omega arith in e) ∙ byte_none map at none))

pub load_missing : (map : Map) (at n : ℕ) → bytes_from map at n ≡ None → read map at n ≡ None
load_missing map at n none = read-bytes map at n ∙ ap (option_map number_of) none

pub load_found : (map : Map) (at n : ℕ) (bytes : List ℕ) → bytes_from map at n ≡ Some bytes → read map at n ≡ Some (number_of bytes)
load_found map at n bytes all = read-bytes map at n ∙ ap (option_map number_of) all

pub load_rest : (ss : List Segment) (at n : ℕ) (rest : List ℕ) → IsRest ss at rest → n ≤ length rest → read (byte_at ss) at n ≡ Some (number_of (take n rest))
load_rest ss at n rest is less = load_found (byte_at ss) at n (take n rest) (bytes_take (byte_at ss) at (length rest) n rest is.mapped less)

pub load_gathered : (ss : List Segment) (at n : ℕ) (bytes : List ℕ) → IsGathered ss at n bytes → read (byte_at ss) at n ≡ Some (number_of (take 8 bytes))
load_gathered ss at n bytes is =
    load_found (byte_at ss) at n (take n bytes) is.mapped
    ∙ ap Some (sym (number_take bytes n (8 - n) is.zeros) ∙ ap number_of (sym (take_all 8 bytes (let e : length bytes ≤ 8 = omega (arith, is.long) in e))))

-- the widths of accesses
pub wide : (w : ℕ) → (w ≡ 1) ⊎ (w ≡ 2) ⊎ (w ≡ 4) ⊎ (w ≡ 8) → (0 < w) × (w ≤ 8)
wide w (inl e) = (omega (arith, e), omega (arith, e))
wide w (inr (inl e)) = (omega (arith, e), omega (arith, e))
wide w (inr (inr (inl e))) = (omega (arith, e), omega (arith, e))
wide w (inr (inr (inr e))) = (omega (arith, e), omega (arith, e))

pub first_of_rest : (ss : List Segment) (at : ℕ) (rest : List ℕ) → IsRest ss at rest → Some (get_or rest 0 0) ≡ byte_of (byte_at ss) at
first_of_rest ss at [] is = absurd (omega (arith, is.some))
first_of_rest ss at (b ∷ rest) is =
    let h = bytes_begin (byte_at ss) at (length rest) (b ∷ rest) is.mapped in
    let all = h.all in
    let e : b ≡ h.byte = cc in
    ap Some e ∙ sym h.byte_is

-- gathering
pub gathered_none : (ss : List Segment) (at : ℕ) → IsGathered ss at 0 (replicate 8 0)
unfolding bytes_from
gathered_none ss at = record { mapped = refl; zeros = refl; long = refl }

zeros_next : (bytes : List ℕ) (k n m x : ℕ) → drop k bytes ≡ replicate n 0 → n ≡ suc m → drop (suc k) (set bytes k x) ≡ replicate m 0
zeros_next [] zero n m x zeros more = absurd (let e : [] ≡ replicate (suc m) 0 = zeros ∙ ap (λ i. replicate i 0) more in cc)
zeros_next [] (suc k) n m x zeros more = absurd (let e : [] ≡ replicate (suc m) 0 = zeros ∙ ap (λ i. replicate i 0) more in cc)
zeros_next (b ∷ bytes) zero n m x zeros more =
    let e : b ∷ bytes ≡ replicate (suc m) 0 = zeros ∙ ap (λ i. replicate i 0) more in
    let f : bytes ≡ replicate m 0 = cc in f
zeros_next (b ∷ bytes) (suc k) n m x zeros more = zeros_next bytes k n m x zeros more

pub gathered_more : (ss : List Segment) (at k x : ℕ) (bytes : List ℕ) → IsGathered ss at k bytes → k < 8 → byte_of (byte_at ss) (at + k) ≡ Some x → IsGathered ss at (k + 1) (set bytes k x)
gathered_more ss at k x bytes is less more = record {
  mapped =
      ap (bytes_from (byte_at ss) at) (let e : k + 1 ≡ suc k = omega arith in e)
      ∙ bytes_more (byte_at ss) at k (take k bytes) x is.mapped more
      ∙ ap Some (sym (take-set_at bytes k (k + 1) x refl (let e : k < length bytes = omega (arith, is.long) in e)));
  zeros =
      ap (λ n. drop n (set bytes k x)) (let e : k + 1 ≡ suc k = omega arith in e)
      ∙ zeros_next bytes k (8 - k) (8 - (k + 1)) x is.zeros (omega arith);
  long = length-set bytes k x ∙ is.long;
}

-- an address that is mapped
option_cases : {T : Type 0} (o : Option T) → (o ≡ None) ⊎ (is_some o ≡ true)
option_cases None = inl refl
option_cases (Some x) = inr refl

pub mapped_each : (map : Map) (at n j : ℕ) → IsSome (bytes_from map at n) → j < n → IsSome (map (at + j))
mapped_each map at n j some less =
    ⊎_elim (λ (none : map (at + j) ≡ None). absurd (not_there (bytes_from map at n) (bytes_none map at j n less (byte_none map (at + j) none)) some))
    (λ (yes : is_some (map (at + j)) ≡ true). yes) (option_cases (map (at + j)))

pub below_each : (map : Map) (at n j : ℕ) → IsSome (bytes_from map at n) → j < n → at + j < 2 ^ 64
below_each map at n j some less =
    not_less (2 ^ 64) (suc (at + j)) (λ past. not_there (bytes_from map at n) (bytes_none map at j n less (byte_past map (at + j) (omega arith))) some)

pub mapped_after : (map : Map) (at b other : ℕ) → IsSome (map other) → IsSome (with_byte map at b other)
mapped_after map at b other some = elim (other == at) as (λ t. is_some (cond t (Some b) (map other)) ≡ true) [ true ↦ refl | false ↦ some ]

-- storing the lowest byte first
pub stored_step : (map : Map) (at next n m value : ℕ) → n ≡ suc m → next ≡ at + 1 → stored map at n value ≡ stored (with_byte map at (value % 2 ^ 8)) next m (value / 2 ^ 8)
unfolding stored
stored_step map at next n m value more after =
    ap (λ k. stored map at k value) more ∙ ap (λ a. stored (with_byte map at (value % 2 ^ 8)) a m (value / 2 ^ 8)) (sym after)

pub stored_done : (map : Map) (at n value : ℕ) → n ≡ zero → stored map at n value ≡ map
unfolding stored
stored_done map at n value none = ap (λ k. stored map at k value) none

-- whether bytes are mapped, by what is read of them
pub read_some : (map : Map) (at n : ℕ) → IsSome (bytes_from map at n) → IsSome (read map at n)
read_some map at n some = subst IsSome (sym (read-bytes map at n)) (mapped (bytes_from map at n) some)
  where
    mapped : (o : Option (List ℕ)) → IsSome o → IsSome (option_map number_of o)
    mapped (Some bs) h = refl
    mapped None h = absurd cc

pub never_read : (map : Map) (at n : ℕ) → read map at n ≡ None → IsSome (read map at n) → ⊥
never_read map at n none some = not_there (read map at n) none some

pub within_read : (ss : List Segment) (k : ℕ) (s : Segment) (at n : ℕ) → AreRegions ss → slice_get ss k ≡ Some s → s.base ≤ at → at < end_of s → at - s.base + n ≤ length s.bytes → IsSome (read (byte_at ss) at n)
within_read ss k s at n rise there low high fits =
    let rest = rest_is ss k s at (drop (at - s.base) s.bytes) rise there low high refl in
    let long : n ≤ length (drop (at - s.base) s.bytes) = omega (arith, length-drop (at - s.base) s.bytes) in
    subst IsSome (sym (load_rest ss at n (drop (at - s.base) s.bytes) rest long)) refl

-- what a call that answers an option ensures, once it is known which
pub none_of : {T : Type 0} (o : Option T) (P : Type 0) → IfNone o P → is_some o ≡ false → P
none_of None P h e = h
none_of (Some x) P h e = absurd cc

pub some_of : {T : Type 0} (o : Option T) (Q : T → Type 0) → IfSome o Q → is_some o ≡ true → (x : T) × Q x
some_of None Q h e = absurd cc
some_of (Some x) Q h e = (x, h)

pub read_gathered : (ss : List Segment) (at n : ℕ) (bytes : List ℕ) → IsGathered ss at n bytes → IsSome (read (byte_at ss) at n)
read_gathered ss at n bytes is = subst IsSome (sym (load_gathered ss at n bytes is)) refl

pub put_read : (old new : List Segment) (k at width value : ℕ) → AreRegions old → IsPut old new k at width value → IsSome (read (byte_at old) at width)
put_read old new k at width value rise put = within_read old k put.segment at width rise put.there put.low put.high put.fits

pub true_of : (b : Bool) (P : Type 0) → OnTrue b P → b ≡ true → P
true_of true P h e = h
true_of false P h e = absurd cc

pub false_of : (b : Bool) (P : Type 0) → OnFalse b P → b ≡ false → P
false_of false P h e = h
false_of true P h e = absurd cc
