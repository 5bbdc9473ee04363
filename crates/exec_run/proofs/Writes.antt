-- Ranges with a byte written, and with several.
use Rattle.std.proofs.Common.{◌≡◌, ◌≢◌, ◌⊎◌, ⊎_elim, inl, inr, ℕ, true, false, Some, ◌+◌, ◌-◌, ◌/◌, ◌%◌, ◌^◌, ◌<◌, ◌≤◌, List, [], ◌∷◌, length, set, zero, suc, refl, ap, sym, ◌∙◌, cond, subst, arith, length-set}
use Rattle.std.specs.Prelude.{slice_get, nat_lt, ◌==◌}
use Rattle.std.proofs.Math.Dec.{leb}
use Rattle.std.proofs.lemmas.Bool.Decides.{leb_tells, eqb_tells}
use Rattle.std.proofs.Math.Path.{fun_ext}
use Rattle.std.proofs.lemmas.Option.{slice_get_within}
use Rattle.list_laws.proofs.Lists.{set_there, set_elsewhere}
use Rattle.rv_hart.specs.Map.{stored, with_byte}
use Rattle.code_memory.specs.Mapped.{byte_at}
use Rattle.code_memory.specs.declared.image.Segment.{Segment}
use Rattle.exec_run.specs.declared.host.TheConstants.{STACK_END}
use Rattle.exec_run.specs.Regions.{AreRegions, IsPut, IsSet, with_number}
use Rattle.exec_run.proofs.Regions.{Rise, end_of, in_range, before_first, after_first}

pub set_itself : (ss : List Segment) (k : ℕ) (s : Segment) → slice_get ss k ≡ Some s → set ss k s ≡ ss
set_itself [] k s there = refl
set_itself (u ∷ ss) zero s there = let e : u ≡ s = cc in ap (λ x. x ∷ ss) (sym e)
set_itself (u ∷ ss) (suc k) s there = ap (λ xs. u ∷ xs) (set_itself ss k s there)

set_again : (ss : List Segment) (k : ℕ) (s t : Segment) → set (set ss k s) k t ≡ set ss k t
set_again [] k s t = refl
set_again (u ∷ ss) zero s t = refl
set_again (u ∷ ss) (suc k) s t = ap (λ xs. u ∷ xs) (set_again ss k s t)

-- a range for one of the same place and length
pub rise_set : (low : ℕ) (ss : List Segment) (high k : ℕ) (s t : Segment) → Rise low ss high → slice_get ss k ≡ Some s → t.base ≡ s.base → length t.bytes ≡ length s.bytes → Rise low (set ss k t) high
rise_set low [] high k s t rise there base long = rise
rise_set low (u ∷ ss) high zero s t rise there base long =
    let same : u ≡ s = cc in
    let b : t.base ≡ u.base = base ∙ sym (ap (λ (x : Segment). x.base) same) in
    let l : length t.bytes ≡ length u.bytes = long ∙ sym (ap (λ (x : Segment). length x.bytes) same) in
    (omega (arith, rise.0, b), omega (arith, rise.1, l), subst (λ e. Rise e ss high) (let e : end_of u ≡ end_of t = omega (arith, b, l) in e) rise.2)
rise_set low (u ∷ ss) high (suc k) s t rise there base long =
    (rise.0, rise.1, rise_set (end_of u) ss high k s t rise.2 there base long)

-- elsewhere the bytes are as before
first_same : (s t : Segment) (ss : List Segment) (a : ℕ) → t.base ≡ s.base → length t.bytes ≡ length s.bytes → (a < s.base) ⊎ (end_of s ≤ a) → byte_at (t ∷ ss) a ≡ byte_at (s ∷ ss) a
first_same s t ss a base long out =
    ⊎_elim (λ (low : a < s.base). skip t (inl (omega (arith, base))) ∙ sym (skip s (inl low)))
    (λ (high : end_of s ≤ a). skip t (inr (omega (arith, base, long))) ∙ sym (skip s (inr high))) out
  where
    skip : (x : Segment) → (a < x.base) ⊎ (end_of x ≤ a) → byte_at (x ∷ ss) a ≡ byte_at ss a
    skip x out =
        ⊎_elim (λ low. before_first x ss a low) (λ high. after_first x ss a high) out

elsewhere : (ss : List Segment) (k : ℕ) (s t : Segment) (a : ℕ) → slice_get ss k ≡ Some s → t.base ≡ s.base → length t.bytes ≡ length s.bytes → (a < s.base) ⊎ (end_of s ≤ a) → byte_at (set ss k t) a ≡ byte_at ss a
elsewhere [] k s t a there base long out = refl
elsewhere (u ∷ ss) zero s t a there base long out =
    let same : u ≡ s = cc in
    first_same s t ss a base long out ∙ ap (λ x. byte_at (x ∷ ss) a) (sym same)
elsewhere (u ∷ ss) (suc k) s t a there base long out =
    ap (λ b. cond (nat_lt a u.base) b (cond (nat_lt a (end_of u)) (slice_get u.bytes (a - u.base)) b)) (elsewhere ss k s t a there base long out)

-- a range with one byte written
abbrev pub with_one : Segment → ℕ → ℕ → Segment
with_one s place b = record s { bytes = set s.bytes place b }

byte_there : (ss : List Segment) (k : ℕ) (s : Segment) (place b : ℕ) → AreRegions ss → slice_get ss k ≡ Some s → place < length s.bytes → byte_at (set ss k (with_one s place b)) (s.base + place) ≡ Some b
byte_there ss k s place b rise there less =
    let t = with_one s place b in
    let long : length t.bytes ≡ length s.bytes = length-set s.bytes place b in
    in_range 0 (set ss k t) STACK_END k t (s.base + place) (rise_set 0 ss STACK_END k s t rise there refl long) (set_there ss k t (slice_get_within ss k s there)) (omega arith) (omega (arith, long))
    ∙ ap (slice_get t.bytes) (let e : s.base + place - s.base ≡ place = omega arith in e)
    ∙ set_there s.bytes place b less

byte_other : (ss : List Segment) (k : ℕ) (s : Segment) (place b a : ℕ) → AreRegions ss → slice_get ss k ≡ Some s → place < length s.bytes → a ≢ s.base + place → byte_at (set ss k (with_one s place b)) a ≡ byte_at ss a
byte_other ss k s place b a rise there less apart =
    let t = with_one s place b in
    let long : length t.bytes ≡ length s.bytes = length-set s.bytes place b in
    ⊎_elim (λ (e : (leb s.base a ≡ true) × (s.base ≤ a)).
    ⊎_elim (λ (f : (leb (suc a) (end_of s) ≡ true) × (suc a ≤ end_of s)).
    let from : s.base ≤ a = e.1 in
    let below : a < end_of s = omega (arith, f.1) in
    in_range 0 (set ss k t) STACK_END k t a (rise_set 0 ss STACK_END k s t rise there refl long) (set_there ss k t (slice_get_within ss k s there)) from (omega (arith, long))
    ∙ set_elsewhere s.bytes place (a - s.base) b (λ g. apart (omega arith))
    ∙ sym (in_range 0 ss STACK_END k s a rise there from below))
    (λ (f : (leb (suc a) (end_of s) ≡ false) × (end_of s < suc a)). elsewhere ss k s t a there refl long (inr (omega (arith, f.1))))
    (leb_tells (suc a) (end_of s)))
    (λ (e : (leb s.base a ≡ false) × (a < s.base)). elsewhere ss k s t a there refl long (inl e.1))
    (leb_tells s.base a)

-- the map with that byte
pub one_byte : (ss : List Segment) (k : ℕ) (s : Segment) (place b : ℕ) → AreRegions ss → slice_get ss k ≡ Some s → place < length s.bytes → byte_at (set ss k (with_one s place b)) ≡ with_byte (byte_at ss) (s.base + place) b
one_byte ss k s place b rise there less =
    fun_ext (λ a.
    ⊎_elim (λ (e : ((a == s.base + place) ≡ true) × (a ≡ s.base + place)).
    ap (byte_at (set ss k (with_one s place b))) e.1 ∙ byte_there ss k s place b rise there less ∙ sym (ap (λ t. cond t (Some b) (byte_at ss a)) e.0))
    (λ (e : ((a == s.base + place) ≡ false) × (a ≢ s.base + place)).
    byte_other ss k s place b a rise there less e.1 ∙ sym (ap (λ t. cond t (Some b) (byte_at ss a)) e.0))
    (eqb_tells a (s.base + place)))

pub rise_one : (ss : List Segment) (k : ℕ) (s : Segment) (place b : ℕ) → AreRegions ss → slice_get ss k ≡ Some s → AreRegions (set ss k (with_one s place b))
rise_one ss k s place b rise there = rise_set 0 ss STACK_END k s (with_one s place b) rise there refl (length-set s.bytes place b)

-- a range with several bytes written
abbrev pub with_several : Segment → ℕ → ℕ → ℕ → Segment
with_several s place width value = record s { bytes = with_number s.bytes place width value }

pub several_bytes : (ss : List Segment) (k : ℕ) (s : Segment) (place width value : ℕ) → AreRegions ss → slice_get ss k ≡ Some s → place + width ≤ length s.bytes → byte_at (set ss k (with_several s place width value)) ≡ stored (byte_at ss) (s.base + place) width value
unfolding stored with_number
several_bytes ss k s place zero value rise there within = ap byte_at (set_itself ss k s there)
several_bytes ss k s place (suc width) value rise there within =
    let b = value % 2 ^ 8 in
    let t = with_one s place b in
    let long : length t.bytes ≡ length s.bytes = length-set s.bytes place b in
    ap byte_at (sym (set_again ss k t (with_several t (place + 1) width (value / 2 ^ 8))))
    ∙ several_bytes (set ss k t) k t (place + 1) width (value / 2 ^ 8) (rise_one ss k s place b rise there) (set_there ss k t (slice_get_within ss k s there)) (omega (arith, long))
    ∙ ap (λ m. stored m (s.base + (place + 1)) width (value / 2 ^ 8)) (one_byte ss k s place b rise there (omega arith))
    ∙ ap (λ a. stored (with_byte (byte_at ss) (s.base + place) b) a width (value / 2 ^ 8)) (let e : s.base + (place + 1) ≡ s.base + place + 1 = omega arith in e)

pub number_length : (bytes : List ℕ) (place width value : ℕ) → length (with_number bytes place width value) ≡ length bytes
unfolding with_number
number_length bytes place zero value = refl
number_length bytes place (suc width) value =
    number_length (set bytes place (value % 2 ^ 8)) (place + 1) width (value / 2 ^ 8) ∙ length-set bytes place (value % 2 ^ 8)

-- a range that a value or a byte was written in
pub put_bytes : (old new : List Segment) (k at width value : ℕ) → AreRegions old → IsPut old new k at width value → byte_at new ≡ stored (byte_at old) at width value
put_bytes old new k at width value rise put =
    let s = put.segment in
    let low : s.base ≤ at = put.low in
    ap byte_at put.written
    ∙ several_bytes old k s (at - s.base) width value rise put.there put.fits
    ∙ ap (λ a. stored (byte_at old) a width value) (let e : s.base + (at - s.base) ≡ at = omega arith in e)

pub set_byte : (old new : List Segment) (k at byte : ℕ) → AreRegions old → IsSet old new k at byte → byte_at new ≡ with_byte (byte_at old) at byte
set_byte old new k at byte rise set_in =
    let s = set_in.segment in
    let low : s.base ≤ at = set_in.low in
    let high : at < s.base + length s.bytes = set_in.high in
    ap byte_at set_in.written
    ∙ one_byte old k s (at - s.base) byte rise set_in.there (omega arith)
    ∙ ap (λ a. with_byte (byte_at old) a byte) (let e : s.base + (at - s.base) ≡ at = omega arith in e)
