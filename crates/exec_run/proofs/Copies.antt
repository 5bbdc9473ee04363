-- The ranges of an image, of which some have copies in a pool.
use Rattle.std.proofs.Common.{◌≡◌, ◌≢◌, ◌⊎◌, ⊎_elim, inl, inr, ℕ, Option, Some, None, ◌+◌, ◌-◌, ◌<◌, ◌≤◌, List, [], ◌∷◌, ◌++◌, length, set, zero, suc, refl, ap, sym, ◌∙◌, subst, arith, length-append, length-set}
use Rattle.std.specs.Prelude.{slice_get}
use Rattle.orc_ids.specs.declared.limits.TheConstants.{CODE_START, CODE_END}
use Rattle.code_memory.specs.Mapped.{AreSegments}
use Rattle.code_memory.specs.declared.image.Segment.{Segment}
use Rattle.exec_run.specs.Regions.{Region, bytes_of, shown, all_shown, uncopied, all_uncopied, AreCopied, IsIn, IsPut, IsSet, with_number}
use Rattle.exec_run.proofs.Stretches.{stretch, stretch_more, stretch_new, stretch_length, IsWritten, byte_written, number_written}
use Rattle.exec_run.proofs.Writes.{rise_set, set_itself, number_length}

-- what is shown of a range, by its number
pub shown_get : (pool : List ℕ) (rs : List Region) (k : ℕ) (r : Region) → slice_get rs k ≡ Some r → slice_get (all_shown pool rs) k ≡ Some (shown pool r)
shown_get pool [] k r there = absurd cc
shown_get pool (x ∷ rs) zero r there = let e : x ≡ r = cc in ap (λ y. Some (shown pool y)) e
shown_get pool (x ∷ rs) (suc k) r there = shown_get pool rs k r there

pub shown_length : (pool : List ℕ) (rs : List Region) → length (all_shown pool rs) ≡ length rs
shown_length pool [] = refl
shown_length pool (x ∷ rs) = omega (arith, shown_length pool rs)

-- all ranges are shown as before, or one of them otherwise
shown_same : (old new : List ℕ) (rs : List Region) → ((j : ℕ) (x : Region) → slice_get rs j ≡ Some x → shown new x ≡ shown old x) → all_shown new rs ≡ all_shown old rs
shown_same old new [] others = refl
shown_same old new (x ∷ rs) others = ap (λ t. t ∷ all_shown new rs) (others zero x refl) ∙ ap (λ ss. shown old x ∷ ss) (shown_same old new rs (λ j y here. others (suc j) y here))

shown_changed : (old new : List ℕ) (rs : List Region) (k : ℕ) (r : Region) (s : Segment) → slice_get rs k ≡ Some r → shown new r ≡ s → ((j : ℕ) (x : Region) → j ≢ k → slice_get rs j ≡ Some x → shown new x ≡ shown old x) → all_shown new rs ≡ set (all_shown old rs) k s
shown_changed old new [] k r s there is others = absurd cc
shown_changed old new (x ∷ rs) zero r s there is others =
    let e : x ≡ r = cc in
    ap (λ y. shown new y ∷ all_shown new rs) e ∙ ap (λ t. t ∷ all_shown new rs) is ∙ ap (λ ss. s ∷ ss) (shown_same old new rs (λ j y here. others (suc j) y (λ f. omega arith) here))
shown_changed old new (x ∷ rs) (suc k) r s there is others =
    ap (λ t. t ∷ all_shown new rs) (others zero x (λ f. omega arith) refl)
    ∙ ap (λ ss. shown old x ∷ ss) (shown_changed old new rs k r s there is (λ j y apart here. others (suc j) y (λ f. apart (let g : j ≡ k = omega arith in g)) here))

shown_replaced : (pool : List ℕ) (rs : List Region) (k : ℕ) (r : Region) → all_shown pool (set rs k r) ≡ set (all_shown pool rs) k (shown pool r)
shown_replaced pool [] k r = refl
shown_replaced pool (x ∷ rs) zero r = refl
shown_replaced pool (x ∷ rs) (suc k) r = ap (λ ss. shown pool x ∷ ss) (shown_replaced pool rs k r)

-- the bytes of a range
pub copy_is : (pool : List ℕ) (c : Option ℕ) (place : ℕ) (bytes : List ℕ) → c ≡ Some place → bytes_of pool c bytes ≡ stretch pool place (length bytes)
copy_is pool c place bytes is = ap (λ c. bytes_of pool c bytes) is

bytes_long : (pool : List ℕ) (c : Option ℕ) (bytes : List ℕ) → ((place : ℕ) → c ≡ Some place → place + length bytes ≤ length pool) → length (bytes_of pool c bytes) ≡ length bytes
bytes_long pool None bytes within = refl
bytes_long pool (Some place) bytes within = stretch_length pool place (length bytes) (within place refl)

pub shown_long : (rs : List Region) (pool : List ℕ) (capacity k : ℕ) (r : Region) → AreCopied rs pool capacity → slice_get rs k ≡ Some r → length (bytes_of pool r.copy r.bytes) ≡ length r.bytes
shown_long rs pool capacity k r copied there = bytes_long pool r.copy r.bytes (λ place is. copied.within k place r there is)

bytes_kept : (old new : List ℕ) (c : Option ℕ) (bytes : List ℕ) → ((place : ℕ) → c ≡ Some place → stretch new place (length bytes) ≡ stretch old place (length bytes)) → bytes_of new c bytes ≡ bytes_of old c bytes
bytes_kept old new None bytes same = refl
bytes_kept old new (Some place) bytes same = same place refl

-- a copy that is written
written_shown : (rs : List Region) (old new : List ℕ) (capacity k place : ℕ) (r : Region) (bytes : List ℕ) → AreCopied rs old capacity → slice_get rs k ≡ Some r → r.copy ≡ Some place → IsWritten old new place (length r.bytes) bytes → all_shown new rs ≡ set (all_shown old rs) k (record { base = r.base; bytes = bytes })
written_shown rs old new capacity k place r bytes copied there is written =
    shown_changed old new rs k r (record { base = r.base; bytes = bytes }) there
    (ap (λ bs. record { base = r.base; bytes = bs }) (copy_is new r.copy place r.bytes is ∙ written.here))
    (λ j x apart here. ap (λ bs. record { base = x.base; bytes = bs })
    (bytes_kept old new x.copy x.bytes (λ q named. written.elsewhere q (length x.bytes) (copied.apart k j place q r x (λ e. apart (sym e)) there here is named))))

written_copied : (rs : List Region) (old new : List ℕ) (capacity k place : ℕ) (r : Region) (bytes : List ℕ) → AreCopied rs old capacity → slice_get rs k ≡ Some r → r.copy ≡ Some place → IsWritten old new place (length r.bytes) bytes → length bytes ≡ length r.bytes → AreCopied rs new capacity
written_copied rs old new capacity k place r bytes copied there is written long = record {
  within = λ j q x here named. let within = copied.within j q x here named in omega (arith, written.long);
  apart = copied.apart;
  room = omega (arith, written.long, copied.room);
  small = omega (arith, written.long, copied.small);
  segments = subst AreSegments (sym (written_shown rs old new capacity k place r bytes copied there is written))
      (rise_set CODE_START (all_shown old rs) CODE_END k (shown old r) (record { base = r.base; bytes = bytes }) copied.segments (shown_get old rs k r there) refl (long ∙ sym (shown_long rs old capacity k r copied there)));
}

-- the range that was read has the address
pub record HasAddress (rs : List Region) (k at : ℕ) (r : Region) : Type 0 where
  pub there : slice_get rs k ≡ Some r
  pub low : r.base ≤ at
  pub high : at < r.base + length r.bytes

pub region_read : (rs : List Region) (pool : List ℕ) (capacity k at : ℕ) (r : Region) → AreCopied rs pool capacity → IsIn (all_shown pool rs) k at → slice_get rs k ≡ Some r → HasAddress rs k at r
region_read rs pool capacity k at r copied is there =
    let e : Some is.segment ≡ Some (shown pool r) = sym is.there ∙ shown_get pool rs k r there in
    let same : is.segment ≡ shown pool r = cc in
    let low : r.base ≤ at = subst (λ (x : Segment). x.base ≤ at) same is.low in
    let high : at < r.base + length (bytes_of pool r.copy r.bytes) = subst (λ (x : Segment). at < x.base + length x.bytes) same is.high in
    record { there = there; low = low; high = omega (arith, shown_long rs pool capacity k r copied there) }

-- a value or a byte that is written in a copy is written in the range
pub put_copy : (rs : List Region) (old new : List ℕ) (capacity k at place width value : ℕ) (r : Region) → AreCopied rs old capacity → HasAddress rs k at r → r.copy ≡ Some place → at - r.base + width ≤ length r.bytes → new ≡ with_number old (place + (at - r.base)) width value → IsPut (all_shown old rs) (all_shown new rs) k at width value
put_copy rs old new capacity k at place width value r copied here is fits put =
    let from = at - r.base in
    let count = length r.bytes in
    let long = shown_long rs old capacity k r copied here.there in
    record {
      segment = shown old r;
      there = shown_get old rs k r here.there;
      low = here.low;
      high = omega (arith, here.high);
      fits = omega arith;
      written = ap (λ bs. all_shown bs rs) put
          ∙ written_shown rs old (with_number old (place + from) width value) capacity k place r _ copied here.there is (number_written old place count from width value fits)
          ∙ ap (λ bs. set (all_shown old rs) k (record { base = r.base; bytes = with_number bs from width value })) (sym (copy_is old r.copy place r.bytes is));
    }

pub put_copied : (rs : List Region) (old new : List ℕ) (capacity k at place width value : ℕ) (r : Region) → AreCopied rs old capacity → HasAddress rs k at r → r.copy ≡ Some place → at - r.base + width ≤ length r.bytes → new ≡ with_number old (place + (at - r.base)) width value → AreCopied rs new capacity
put_copied rs old new capacity k at place width value r copied here is fits put =
    let from = at - r.base in
    let count = length r.bytes in
    let bytes = with_number (stretch old place count) from width value in
    subst (λ bs. AreCopied rs bs capacity) (sym put)
    (written_copied rs old (with_number old (place + from) width value) capacity k place r bytes copied here.there is (number_written old place count from width value fits)
    (number_length (stretch old place count) from width value ∙ stretch_length old place count (copied.within k place r here.there is)))

pub set_copy : (rs : List Region) (old : List ℕ) (capacity k at place byte : ℕ) (r : Region) → AreCopied rs old capacity → HasAddress rs k at r → r.copy ≡ Some place → IsSet (all_shown old rs) (all_shown (set old (place + (at - r.base)) byte) rs) k at byte
set_copy rs old capacity k at place byte r copied here is =
    let from = at - r.base in
    let count = length r.bytes in
    let long = shown_long rs old capacity k r copied here.there in
    record {
      segment = shown old r;
      there = shown_get old rs k r here.there;
      low = here.low;
      high = omega (arith, here.high);
      written = written_shown rs old (set old (place + from) byte) capacity k place r _ copied here.there is (byte_written old place count from byte (omega (arith, here.low, here.high)))
          ∙ ap (λ bs. set (all_shown old rs) k (record { base = r.base; bytes = set bs from byte })) (sym (copy_is old r.copy place r.bytes is));
    }

pub set_copied : (rs : List Region) (old : List ℕ) (capacity k at place byte : ℕ) (r : Region) → AreCopied rs old capacity → HasAddress rs k at r → r.copy ≡ Some place → AreCopied rs (set old (place + (at - r.base)) byte) capacity
set_copied rs old capacity k at place byte r copied here is =
    let from = at - r.base in
    let count = length r.bytes in
    written_copied rs old (set old (place + from) byte) capacity k place r (set (stretch old place count) from byte) copied here.there is (byte_written old place count from byte (omega (arith, here.low, here.high)))
    (length-set (stretch old place count) from byte ∙ stretch_length old place count (copied.within k place r here.there is))

-- a copy more
abbrev pub with_copy : Region → ℕ → Region
with_copy r place = record r { copy = Some place }

pub uncopied_within : (rs : List Region) (k : ℕ) (r : Region) → slice_get rs k ≡ Some r → r.copy ≡ None → length r.bytes ≤ all_uncopied rs
unfolding all_uncopied
uncopied_within [] k r there none = absurd cc
uncopied_within (x ∷ rs) zero r there none =
    let same : x ≡ r = cc in
    let first : uncopied x.copy (length x.bytes) ≡ length r.bytes = ap (λ (y : Region). uncopied y.copy (length y.bytes)) same ∙ ap (λ c. uncopied c (length r.bytes)) none in
    omega arith
uncopied_within (x ∷ rs) (suc k) r there none = omega (arith, uncopied_within rs k r there none)

uncopied_less : (rs : List Region) (k place : ℕ) (r : Region) → slice_get rs k ≡ Some r → r.copy ≡ None → all_uncopied (set rs k (with_copy r place)) + length r.bytes ≡ all_uncopied rs
unfolding all_uncopied
uncopied_less [] k place r there none = absurd cc
uncopied_less (x ∷ rs) zero place r there none =
    let same : x ≡ r = cc in
    let first : uncopied x.copy (length x.bytes) ≡ length r.bytes = ap (λ (y : Region). uncopied y.copy (length y.bytes)) same ∙ ap (λ c. uncopied c (length r.bytes)) none in
    omega arith
uncopied_less (x ∷ rs) (suc k) place r there none = omega (arith, uncopied_less rs k place r there none)

added_shown : (rs : List Region) (pool more : List ℕ) (capacity : ℕ) → AreCopied rs pool capacity → all_shown (pool ++ more) rs ≡ all_shown pool rs
added_shown rs pool more capacity copied =
    shown_same pool (pool ++ more) rs (λ j x here. ap (λ bs. record { base = x.base; bytes = bs })
    (bytes_kept pool (pool ++ more) x.copy x.bytes (λ q named. stretch_more pool more q (length x.bytes) (copied.within j q x here named))))

pub copied_shown : (rs : List Region) (pool : List ℕ) (capacity k : ℕ) (r : Region) → AreCopied rs pool capacity → slice_get rs k ≡ Some r → r.copy ≡ None → all_shown (pool ++ r.bytes) (set rs k (with_copy r (length pool))) ≡ all_shown pool rs
copied_shown rs pool capacity k r copied there none =
    shown_replaced (pool ++ r.bytes) rs k (with_copy r (length pool))
    ∙ ap (λ ss. set ss k (shown (pool ++ r.bytes) (with_copy r (length pool)))) (added_shown rs pool r.bytes capacity copied)
    ∙ ap (λ bs. set (all_shown pool rs) k (record { base = r.base; bytes = bs })) (stretch_new pool r.bytes ∙ sym (ap (λ c. bytes_of pool c r.bytes) none))
    ∙ set_itself (all_shown pool rs) k (shown pool r) (shown_get pool rs k r there)

-- a range is the one that was copied, or as it was
put_get : (rs : List Region) (j k : ℕ) (r x : Region) → slice_get (set rs k r) j ≡ Some x → ((j ≡ k) × (r ≡ x)) ⊎ ((j ≢ k) × (slice_get rs j ≡ Some x))
put_get [] j k r x there = absurd cc
put_get (y ∷ rs) zero zero r x there = inl (refl, cc)
put_get (y ∷ rs) (suc j) zero r x there = inr (λ e. omega arith, there)
put_get (y ∷ rs) zero (suc k) r x there = inr (λ e. omega arith, there)
put_get (y ∷ rs) (suc j) (suc k) r x there =
    ⊎_elim (λ (e : (j ≡ k) × (r ≡ x)). inl (ap suc e.0, e.1)) (λ (e : (j ≢ k) × (slice_get rs j ≡ Some x)). inr (λ f. e.0 (let g : j ≡ k = omega arith in g), e.1)) (put_get rs j k r x there)

-- where the copies are, once one more was made
record IsCopyOf (rs : List Region) (pool : List ℕ) (k : ℕ) (r : Region) (j place : ℕ) (x : Region) : Type 0 where
  sort : ((j ≡ k) × (place ≡ length pool) × (x.bytes ≡ r.bytes)) ⊎ ((j ≢ k) × (slice_get rs j ≡ Some x) × (place + length x.bytes ≤ length pool))

copy_of : (rs : List Region) (pool : List ℕ) (capacity k : ℕ) (r : Region) (j place : ℕ) (x : Region) → AreCopied rs pool capacity → slice_get (set rs k (with_copy r (length pool))) j ≡ Some x → x.copy ≡ Some place → IsCopyOf rs pool k r j place x
copy_of rs pool capacity k r j place x copied there is = record {
  sort = ⊎_elim (λ (e : (j ≡ k) × (with_copy r (length pool) ≡ x)).
      let same : Some (length pool) ≡ Some place = ap (λ (y : Region). y.copy) e.1 ∙ is in
      inl (e.0, cc, sym (ap (λ (y : Region). y.bytes) e.1)))
      (λ (e : (j ≢ k) × (slice_get rs j ≡ Some x)). inr (e.0, e.1, copied.within j place x e.1 is))
      (put_get rs j k (with_copy r (length pool)) x there);
}

pub copied_copied : (rs : List Region) (pool : List ℕ) (capacity more k : ℕ) (r : Region) → AreCopied rs pool capacity → slice_get rs k ≡ Some r → r.copy ≡ None → capacity ≤ more → AreCopied (set rs k (with_copy r (length pool))) (pool ++ r.bytes) more
copied_copied rs pool capacity more k r copied there none grown =
    let long = length-append pool r.bytes in
    record {
      within = λ j place x here is.
          ⊎_elim (λ (e : (j ≡ k) × (place ≡ length pool) × (x.bytes ≡ r.bytes)). let size = ap length e.2 in omega (arith, e.1))
          (λ (e : (j ≢ k) × (slice_get rs j ≡ Some x) × (place + length x.bytes ≤ length pool)). omega (arith, e.2))
          (copy_of rs pool capacity k r j place x copied here is).sort;
      apart = λ i j p q x y other first second is also.
          ⊎_elim (λ (e : (i ≡ k) × (p ≡ length pool) × (x.bytes ≡ r.bytes)).
          ⊎_elim (λ (f : (j ≡ k) × (q ≡ length pool) × (y.bytes ≡ r.bytes)). absurd (other (e.0 ∙ sym f.0)))
          (λ (f : (j ≢ k) × (slice_get rs j ≡ Some y) × (q + length y.bytes ≤ length pool)). inr (omega (arith, e.1, f.2)))
          (copy_of rs pool capacity k r j q y copied second also).sort)
          (λ (e : (i ≢ k) × (slice_get rs i ≡ Some x) × (p + length x.bytes ≤ length pool)).
          ⊎_elim (λ (f : (j ≡ k) × (q ≡ length pool) × (y.bytes ≡ r.bytes)). inl (omega (arith, f.1, e.2)))
          (λ (f : (j ≢ k) × (slice_get rs j ≡ Some y) × (q + length y.bytes ≤ length pool)). copied.apart i j p q x y other e.1 f.1 is also)
          (copy_of rs pool capacity k r j q y copied second also).sort)
          (copy_of rs pool capacity k r i p x copied first is).sort;
      room = omega (arith, copied.room, uncopied_less rs k (length pool) r there none);
      small = omega (arith, copied.small, uncopied_less rs k (length pool) r there none);
      segments = subst AreSegments (sym (copied_shown rs pool capacity k r copied there none)) copied.segments;
    }
