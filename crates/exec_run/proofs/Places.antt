-- The list of the copies' places, and the ranges of an image with it.
use Rattle.std.proofs.Common.{◌≡◌, ℕ, Option, Some, None, ◌+◌, ◌-◌, ◌^◌, ◌<◌, ◌≤◌, List, [], ◌∷◌, ◌++◌, length, get_or, set, zero, suc, refl, ap, sym, ◌∙◌, subst, arith}
use Rattle.std.specs.Prelude.{replicate, slice_get}
use Rattle.list_laws.proofs.Lists.{some_below}
use Rattle.orc_ids.specs.declared.limits.TheConstants.{CODE_START, CODE_END}
use Rattle.code_memory.proofs.Apart.{few_segments}
use Rattle.code_memory.specs.Mapped.{AreSegments}
use Rattle.code_memory.specs.declared.image.Segment.{Segment}
use Rattle.exec_run.specs.Regions.{Region, region_of, regions, with_place, with_number, shown, all_shown, all_uncopied, AreCopied, HasPlaces, IsIn, IsPut, IsSet}
use Rattle.exec_run.proofs.Copies.{HasAddress, region_read, shown_get, shown_length, put_copy, set_copy, copied_copied, copied_shown}
use Rattle.exec_run.proofs.Regions.{Rise, end_of, bounds, item_at, inside}

-- range k and its place
pub region_at : (ss : List Segment) (places : List (Option ℕ)) (k : ℕ) (s : Segment) → slice_get ss k ≡ Some s → slice_get (regions ss places) k ≡ Some (region_of s (get_or places k None))
region_at [] places k s there = absurd cc
region_at (x ∷ ss) [] zero s there = let e : x ≡ s = cc in ap (λ y. Some (region_of y None)) e
region_at (x ∷ ss) [] (suc k) s there = region_at ss [] k s there
region_at (x ∷ ss) (p ∷ places) zero s there = let e : x ≡ s = cc in ap (λ y. Some (region_of y p)) e
region_at (x ∷ ss) (p ∷ places) (suc k) s there = region_at ss places k s there

pub regions_length : (ss : List Segment) (places : List (Option ℕ)) → length (regions ss places) ≡ length ss
regions_length [] places = refl
regions_length (s ∷ ss) [] = omega (arith, regions_length ss [])
regions_length (s ∷ ss) (p ∷ places) = omega (arith, regions_length ss places)

-- range k as it is seen, by what was read of the image's
pub seen_within : (ss : List Segment) (places : List (Option ℕ)) (pool : List ℕ) (seen : List Segment) (k : ℕ) → all_shown pool (regions ss places) ≡ seen → k < length seen → k < length ss
seen_within ss places pool seen k view less = omega (arith, ap length view, shown_length pool (regions ss places), regions_length ss places)

pub seen_get : (ss : List Segment) (places : List (Option ℕ)) (pool : List ℕ) (seen : List Segment) (k : ℕ) (s : Segment) → all_shown pool (regions ss places) ≡ seen → k < length seen → s ≡ get_or ss k s → slice_get seen k ≡ Some (shown pool (region_of s (get_or places k None)))
seen_get ss places pool seen k s view less read =
    ap (λ xs. slice_get xs k) (sym view)
    ∙ shown_get pool (regions ss places) k (region_of s (get_or places k None)) (region_at ss places k s (item_at ss k s (seen_within ss places pool seen k view less) read))

pub seen_few : (rs : List Region) (pool : List ℕ) (capacity : ℕ) (seen : List Segment) → AreCopied rs pool capacity → all_shown pool rs ≡ seen → length seen < 2 ^ 32
seen_few rs pool capacity seen copied view = few_segments seen (subst AreSegments view copied.segments)

-- range k of the image has the address
pub address_read : (ss : List Segment) (places : List (Option ℕ)) (pool : List ℕ) (capacity k at : ℕ) (s : Segment) (seen : List Segment) → AreCopied (regions ss places) pool capacity → all_shown pool (regions ss places) ≡ seen → IsIn seen k at → s ≡ get_or ss k s → HasAddress (regions ss places) k at (region_of s (get_or places k None))
address_read ss places pool capacity k at s seen copied view is read =
    let less : k < length ss = seen_within ss places pool seen k view (inside seen k is.segment is.there) in
    region_read (regions ss places) pool capacity k at (region_of s (get_or places k None)) copied (subst (λ xs. IsIn xs k at) (sym view) is) (region_at ss places k s (item_at ss k s less read))

pub place_within : (ss : List Segment) (places : List (Option ℕ)) (pool : List ℕ) (capacity k place : ℕ) (s : Segment) → AreCopied (regions ss places) pool capacity → k < length ss → s ≡ get_or ss k s → get_or places k None ≡ Some place → place + length s.bytes ≤ length pool
place_within ss places pool capacity k place s copied less read is =
    copied.within k place (region_of s (get_or places k None)) (region_at ss places k s (item_at ss k s less read)) is

-- a value or a byte that is written in the copy of range k
pub put_seen : (ss : List Segment) (places : List (Option ℕ)) (old new : List ℕ) (capacity k at place width value : ℕ) (s : Segment) (seen : List Segment) → AreCopied (regions ss places) old capacity → all_shown old (regions ss places) ≡ seen → HasAddress (regions ss places) k at (region_of s (get_or places k None)) → get_or places k None ≡ Some place → at - s.base + width ≤ length s.bytes → new ≡ with_number old (place + (at - s.base)) width value → IsPut seen (all_shown new (regions ss places)) k at width value
put_seen ss places old new capacity k at place width value s seen copied view here is fits put =
    subst (λ xs. IsPut xs (all_shown new (regions ss places)) k at width value) view
    (put_copy (regions ss places) old new capacity k at place width value (region_of s (get_or places k None)) copied here is fits put)

pub set_seen : (ss : List Segment) (places : List (Option ℕ)) (old : List ℕ) (capacity k at place byte : ℕ) (s : Segment) (seen : List Segment) → AreCopied (regions ss places) old capacity → all_shown old (regions ss places) ≡ seen → HasAddress (regions ss places) k at (region_of s (get_or places k None)) → get_or places k None ≡ Some place → IsSet seen (all_shown (set old (place + (at - s.base)) byte) (regions ss places)) k at byte
set_seen ss places old capacity k at place byte s seen copied view here is =
    subst (λ xs. IsSet xs (all_shown (set old (place + (at - s.base)) byte) (regions ss places)) k at byte) view
    (set_copy (regions ss places) old capacity k at place byte (region_of s (get_or places k None)) copied here is)

-- a place that is noted
pub place_there : (places : List (Option ℕ)) (k place : ℕ) → get_or (with_place places k place) k None ≡ Some place
place_there [] zero place = refl
place_there [] (suc k) place = place_there [] k place
place_there (p ∷ places) zero place = refl
place_there (p ∷ places) (suc k) place = place_there places k place

pub place_set : (places : List (Option ℕ)) (k place : ℕ) → k < length places → with_place places k place ≡ set places k (Some place)
place_set [] k place less = absurd (omega arith)
place_set (p ∷ places) zero place less = refl
place_set (p ∷ places) (suc k) place less = ap (λ ps. p ∷ ps) (place_set places k place (omega arith))

pub place_pushed : (places : List (Option ℕ)) (k n place : ℕ) → length places + n ≡ k → with_place places k place ≡ (places ++ replicate n None) ++ Some place ∷ []
place_pushed [] zero zero place long = refl
place_pushed [] zero (suc n) place long = absurd (omega arith)
place_pushed [] (suc k) zero place long = absurd (omega arith)
place_pushed [] (suc k) (suc n) place long = ap (λ ps. None ∷ ps) (place_pushed [] k n place (omega arith))
place_pushed (p ∷ places) zero n place long = absurd (omega arith)
place_pushed (p ∷ places) (suc k) n place long = ap (λ ps. p ∷ ps) (place_pushed places k n place (omega arith))

regions_with : (ss : List Segment) (places : List (Option ℕ)) (k place : ℕ) (s : Segment) → slice_get ss k ≡ Some s → regions ss (with_place places k place) ≡ set (regions ss places) k (region_of s (Some place))
regions_with [] places k place s there = absurd cc
regions_with (x ∷ ss) [] zero place s there = let e : x ≡ s = cc in ap (λ y. region_of y (Some place) ∷ regions ss []) e
regions_with (x ∷ ss) [] (suc k) place s there = ap (λ rs. region_of x None ∷ rs) (regions_with ss [] k place s there)
regions_with (x ∷ ss) (p ∷ places) zero place s there = let e : x ≡ s = cc in ap (λ y. region_of y (Some place) ∷ regions ss places) e
regions_with (x ∷ ss) (p ∷ places) (suc k) place s there = ap (λ rs. region_of x p ∷ rs) (regions_with ss places k place s there)

-- a range that had no copy has one now, at the end of the pool
pub record IsMade (ss : List Segment) (places : List (Option ℕ)) (most : ℕ) (pool : List ℕ) (capacity k place : ℕ) (seen : List Segment) : Type 0 where
  pub kept : HasPlaces ss places most pool capacity
  pub same : all_shown pool (regions ss places) ≡ seen
  pub named : get_or places k None ≡ Some place

made_last : (ss : List Segment) (places : List (Option ℕ)) (pool : List ℕ) (most capacity more room k : ℕ) (s : Segment) → HasPlaces ss places most pool capacity → slice_get ss k ≡ Some s → get_or places k None ≡ None → most ≤ more → capacity ≤ room → IsMade ss (with_place places k (length pool)) more (pool ++ s.bytes) room k (length pool) (all_shown pool (regions ss places))
made_last ss places pool most capacity more room k s has there none grown wider =
    let rs = regions ss places in
    let r = region_of s (get_or places k None) in
    let here = region_at ss places k s there in
    let is = regions_with ss places k (length pool) s there in
    record {
      kept = record { listed = omega (arith, has.listed); copied = subst (λ xs. AreCopied xs (pool ++ s.bytes) room) (sym is) (copied_copied rs pool capacity room k r has.copied here none wider) };
      same = ap (all_shown (pool ++ s.bytes)) is ∙ copied_shown rs pool capacity k r has.copied here none;
      named = place_there places k (length pool);
    }

pub made : (ss : List Segment) (places noted : List (Option ℕ)) (pool added : List ℕ) (most capacity more room k place : ℕ) (s : Segment) → HasPlaces ss places most pool capacity → slice_get ss k ≡ Some s → get_or places k None ≡ None → noted ≡ with_place places k place → added ≡ pool ++ s.bytes → place ≡ length pool → most ≤ more → capacity ≤ room → IsMade ss noted more added room k place (all_shown pool (regions ss places))
made ss places noted pool added most capacity more room k place s has there none note add end grown wider =
    subst (λ ps. IsMade ss ps more added room k place (all_shown pool (regions ss places))) (sym note)
    (subst (λ bs. IsMade ss (with_place places k place) more bs room k place (all_shown pool (regions ss places))) (sym add)
    (subst (λ p. IsMade ss (with_place places k p) more (pool ++ s.bytes) room k p (all_shown pool (regions ss places))) (sym end)
    (made_last ss places pool most capacity more room k s has there none grown wider)))

-- no byte is copied at first
pub fresh_shown : (ss : List Segment) → all_shown [] (regions ss []) ≡ ss
fresh_shown [] = refl
fresh_shown (s ∷ ss) = ap (λ xs. s ∷ xs) (fresh_shown ss)

fresh_none : (ss : List Segment) (k : ℕ) (r : Region) → slice_get (regions ss []) k ≡ Some r → r.copy ≡ None
fresh_none [] k r there = absurd cc
fresh_none (s ∷ ss) zero r there = let e : region_of s None ≡ r = cc in sym (ap (λ (x : Region). x.copy) e)
fresh_none (s ∷ ss) (suc k) r there = fresh_none ss k r there

-- ranges that rise have no more bytes than there are addresses between their bounds
fresh_size : (low : ℕ) (ss : List Segment) (high : ℕ) → Rise low ss high → low + all_uncopied (regions ss []) ≤ high
unfolding all_uncopied
fresh_size low [] high rise = omega (arith, rise)
fresh_size low (s ∷ ss) high rise = omega (arith, rise.0, fresh_size (end_of s) ss high rise.2)

fresh_copied : (ss : List Segment) (capacity : ℕ) → AreSegments ss → all_uncopied (regions ss []) ≤ capacity → AreCopied (regions ss []) [] capacity
fresh_copied ss capacity segments room = record {
  within = λ k place r there is. let e : None ≡ Some place = sym (fresh_none ss k r there) ∙ is in absurd cc;
  apart = λ j k p q r s apart here there is also. let e : None ≡ Some p = sym (fresh_none ss j r here) ∙ is in absurd cc;
  room = omega (arith, room);
  small = omega (arith, fresh_size CODE_START ss CODE_END segments);
  segments = subst AreSegments (sym (fresh_shown ss)) segments;
}

pub fresh_places : (ss : List Segment) (places : List (Option ℕ)) (most : ℕ) (pool : List ℕ) (capacity : ℕ) → AreSegments ss → places ≡ [] → pool ≡ [] → length ss ≤ most → all_uncopied (regions ss []) ≤ capacity → HasPlaces ss places most pool capacity
fresh_places ss places most pool capacity segments none empty listed room =
    subst (λ ps. HasPlaces ss ps most pool capacity) (sym none)
    (subst (λ bs. HasPlaces ss [] most bs capacity) (sym empty) (record { listed = listed; copied = fresh_copied ss capacity segments room }))

pub fresh_seen : (ss : List Segment) (places : List (Option ℕ)) (pool : List ℕ) → places ≡ [] → pool ≡ [] → all_shown pool (regions ss places) ≡ ss
fresh_seen ss places pool none empty = ap (λ bs. all_shown bs (regions ss places)) empty ∙ ap (λ ps. all_shown [] (regions ss ps)) none ∙ fresh_shown ss

-- the first and the last of them are bounds
up_to_last : (low : ℕ) (s : Segment) (ss : List Segment) (high : ℕ) (t : Segment) → Rise low (s ∷ ss) high → slice_get (s ∷ ss) (length ss) ≡ Some t → Rise low (s ∷ ss) (end_of t)
up_to_last low s [] high t rise there = (rise.0, rise.1, let same : s ≡ t = cc in subst (λ (x : Segment). end_of s ≤ end_of x) same (omega arith))
up_to_last low s (u ∷ ss) high t rise there = (rise.0, rise.1, up_to_last (end_of s) u ss high t rise.2 there)

from_first : (s : Segment) (ss : List Segment) (t : Segment) → AreSegments (s ∷ ss) → slice_get (s ∷ ss) (length ss) ≡ Some t → (s.base ≤ t.base) × (s.base + all_uncopied (regions (s ∷ ss) []) ≤ end_of t)
from_first s ss t segments there =
    let up = up_to_last CODE_START s ss CODE_END t segments there in
    let rise : Rise s.base (s ∷ ss) (end_of t) = (omega arith, up.1, up.2) in
    ((bounds s.base (s ∷ ss) (end_of t) (length ss) t rise there).0, fresh_size s.base (s ∷ ss) (end_of t) rise)

pub extent_is : (ss : List Segment) (s t : Segment) → AreSegments ss → slice_get ss 0 ≡ Some s → slice_get ss (length ss - 1) ≡ Some t → (s.base ≤ t.base) × (s.base + all_uncopied (regions ss []) ≤ end_of t)
extent_is [] s t segments first there = absurd cc
extent_is (u ∷ ss) s t segments first there =
    let same : u ≡ s = cc in
    let last : length ss ≡ length (u ∷ ss) - 1 = omega arith in
    subst (λ (x : Segment). (x.base ≤ t.base) × (x.base + all_uncopied (regions (u ∷ ss) []) ≤ end_of t)) same
    (from_first u ss t segments (ap (slice_get (u ∷ ss)) last ∙ there))

pub extent_none : (ss : List Segment) → slice_get ss (length ss - 1) ≡ None → all_uncopied (regions ss []) ≤ 0
unfolding all_uncopied
extent_none [] none = omega arith
extent_none (s ∷ ss) none = absurd (let e : None ≡ Some (some_below (s ∷ ss) (length (s ∷ ss) - 1) (omega arith)).0 = sym none ∙ (some_below (s ∷ ss) (length (s ∷ ss) - 1) (omega arith)).1 in cc)
