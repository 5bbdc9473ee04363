-- Spans that lie apart: no byte is in two of them, so no section takes a byte that is taken before it.
use Rattle.std.proofs.Common.{◌≡◌, ℕ, zero, suc, ◌+◌, ◌*◌, ◌<◌, ◌≤◌, Bool, true, false, cond, ◌&&◌, ◌||◌, List, [], ◌∷◌, ◌++◌, length, take, get_or, None, refl, sym, ap, subst, ◌∙◌, inl, inr, add-one, arith}
use Rattle.std.proofs.lemmas.Bool.{cases_Bool, cases_lt, or_cases}
use Rattle.std.specs.List.Sorted.{IsNonDecreasingBy, IsPermutation}
use Rattle.std.specs.Bool.{MatchBool}
use Rattle.std.proofs.lemmas.List.Sorted.{sum_by-IsPermutation}
use Rattle.std.proofs.lemmas.List.{get_or_default, take_all}
use Rattle.std.proofs.lemmas.List.Sums.{sum_by_push, sum_by_more, sum_by-take-le}
use Rattle.elf_read.specs.declared.spans.Span.{Span}
use Rattle.elf_read.specs.Choice.{first_below, any_below}
use Rattle.elf_read.specs.File.{File, section}
use Rattle.elf_read.specs.Index.{within, is_owned, spans_at, taken_by, takers, LieApart, ShareByte}
use Rattle.elf_read.specs.Sections.{takes_bytes, overlap_refusal}
use Rattle.elf_read.proofs.Ranges.{within-true, within-facts, within-false, is_owned-next, overlap-none, overlap-empty}

-- ---- spans that follow one another

-- of the first n spans no byte is in two, and none is at or past this end; each byte before it is in
-- one, but for those before the start of a later span
pub record AreApart (spans : List Span) (n end : ℕ) : Type 0 where
  pub once : (k : ℕ) → spans_at (take n spans) k ≤ 1
  pub ended : (k : ℕ) → end ≤ k → spans_at (take n spans) k ≡ 0
  pub reached : (m k : ℕ) (e : Span) → n ≤ m → m < length spans → (get_or spans m e).start ≤ k → k < end → 1 ≤ spans_at (take n spans) k

one-more : (spans : List Span) (n k : ℕ) (d s : Span) → n < length spans → s ≡ get_or spans n d → spans_at (take (n + 1) spans) k ≡ spans_at (take n spans) k + cond (within s.start s.size k) 1 0
one-more spans n k d s lt is = sum_by_more (λ (x : Span). cond (within x.start x.size k) 1 0) spans n d lt ∙ ap (λ (x : Span). spans_at (take n spans) k + cond (within x.start x.size k) 1 0) (sym is)

none-within : (start size k : ℕ) → size ≡ 0 → within start size k ≡ false
none-within start size k empty = elim (cases_lt k start) [
  | inl below ↦ within-false start size k (inl below)
  | inr above ↦ within-false start size k (inr (omega arith))
]

-- an empty span is passed over
pub apart-skip : (spans : List Span) (n end : ℕ) (d s : Span) → n < length spans → s ≡ get_or spans n d → s.size ≡ 0 → AreApart spans n end → AreApart spans (n + 1) end
apart-skip spans n end d s lt is empty seen = record { once = once; ended = ended; reached = reached }
  where
    same : (k : ℕ) → spans_at (take (n + 1) spans) k ≡ spans_at (take n spans) k
    same k = one-more spans n k d s lt is ∙ rw (none-within s.start s.size k empty) (omega arith)

    once : (k : ℕ) → spans_at (take (n + 1) spans) k ≤ 1
    once k = rw (same k) (seen.once k)

    ended : (k : ℕ) → end ≤ k → spans_at (take (n + 1) spans) k ≡ 0
    ended k past = same k ∙ seen.ended k past

    reached : (m k : ℕ) (e : Span) → n + 1 ≤ m → m < length spans → (get_or spans m e).start ≤ k → k < end → 1 ≤ spans_at (take (n + 1) spans) k
    reached m k e later inside low high = rw (same k) (seen.reached m k e (omega arith) inside low high)

pub apart-more : (spans : List Span) (n end next : ℕ) (d s : Span) → n < length spans → s ≡ get_or spans n d → IsNonDecreasingBy (λ (x : Span). x.start) spans → end ≤ s.start → next ≡ s.start + s.size → AreApart spans n end → AreApart spans (n + 1) next
apart-more spans n end next d s lt is rising after next_is seen = record { once = once; ended = ended; reached = reached }
  where
    at : (k : ℕ) → spans_at (take (n + 1) spans) k ≡ spans_at (take n spans) k + cond (within s.start s.size k) 1 0
    at k = one-more spans n k d s lt is

    once : (k : ℕ) → spans_at (take (n + 1) spans) k ≤ 1
    once k = elim (cases_Bool (within s.start s.size k)) [
      | inl t ↦
          (let low = (within-facts s.start s.size k t).0 in
          let before = seen.ended k (omega arith) in
          rw (at k, t, before) (omega arith))
      | inr f ↦ (let before = seen.once k in rw (at k, f) (omega arith))
    ]

    ended : (k : ℕ) → next ≤ k → spans_at (take (n + 1) spans) k ≡ 0
    ended k past =
        let beyond : s.start + s.size ≤ k = omega arith in
        let before = seen.ended k (omega arith) in
        rw (at k, within-false s.start s.size k (inr beyond), before) refl

    reached : (m k : ℕ) (e : Span) → n + 1 ≤ m → m < length spans → (get_or spans m e).start ≤ k → k < next → 1 ≤ spans_at (take (n + 1) spans) k
    reached m k e later inside low high =
        let up : (get_or spans n e).start ≤ (get_or spans m e).start = rising n m e (omega arith) inside in
        let this : get_or spans n e ≡ s = get_or_default spans n e d lt ∙ sym is in
        let first : s.start ≤ (get_or spans m e).start = subst (λ (x : Span). x.start ≤ (get_or spans m e).start) this up in
        rw (at k, within-true s.start s.size k (omega arith) (omega arith)) (omega arith)

pub apart-all : (spans : List Span) (n end : ℕ) → length spans ≤ n → AreApart spans n end → LieApart spans
apart-all spans n end all seen = λ k. subst (λ (xs : List Span). spans_at xs k ≤ 1) (take_all n spans all) (seen.once k)

-- the start of a span with bytes that starts before this end is in two
pub shared-start : (spans : List Span) (n end : ℕ) (d s : Span) → n < length spans → s ≡ get_or spans n d → s.start < end → 0 < s.size → AreApart spans n end → 2 ≤ spans_at spans s.start
shared-start spans n end d s lt is before some seen =
    let start_is : s.start ≡ (get_or spans n d).start = ap (λ (x : Span). x.start) is in
    let one = seen.reached n s.start d (omega arith) lt (omega arith) before in
    let two : spans_at (take (n + 1) spans) s.start ≡ spans_at (take n spans) s.start + 1 = one-more spans n s.start d s lt is ∙ rw (within-true s.start s.size s.start (omega arith) (omega arith)) refl in
    let all = sum_by-take-le (λ (x : Span). cond (within x.start x.size s.start) 1 0) spans (n + 1) in
    omega arith

-- what was found of sorted spans holds of them in any order
pub apart-sorted : (b : Bool) (spans sorted : List Span) → IsPermutation spans sorted → MatchBool b (LieApart sorted) (ShareByte sorted) → MatchBool b (LieApart spans) (ShareByte spans)
apart-sorted true spans sorted same apart = λ k.
    subst (λ (n : ℕ). n ≤ 1) (sum_by-IsPermutation (λ (x : Span). cond (within x.start x.size k) 1 0) spans sorted same) (apart k)
apart-sorted false spans sorted same shared =
    (shared.0, subst (λ (n : ℕ). 2 ≤ n) (sum_by-IsPermutation (λ (x : Span). cond (within x.start x.size shared.0) 1 0) spans sorted same) shared.1)

-- ---- what takes a byte

pub takers-next : (f : File) (i k : ℕ) → takers f (i + 1) k ≡ takers f i k + taken_by f i k
unfolding takers
takers-next f i k = rw add-one refl

pub spans-opened : (f : File) (header table : Span) → header.start ≡ 0 → header.size ≡ 64 → table.start ≡ f.table → table.size ≡ 64 * f.count → (k : ℕ) → spans_at (header ∷ table ∷ []) k ≡ takers f 0 k
unfolding takers
spans-opened f header table zero_is size_is place count_is k = rw (zero_is, size_is, place, count_is) (omega arith)

pub spans-added : (spans : List Span) (f : File) (i : ℕ) (s : Span) → takes_bytes f i ≡ true → s.start ≡ (section f i).offset → s.size ≡ (section f i).size → (k : ℕ) → spans_at (spans ++ s ∷ []) k ≡ spans_at spans k + taken_by f i k
spans-added spans f i s taking start size k = sum_by_push (λ (x : Span). cond (within x.start x.size k) 1 0) spans s ∙ rw (taking, start, size) refl

pub spans-skipped : (f : File) (i n k : ℕ) → takes_bytes f i ≡ false → n ≡ n + taken_by f i k
spans-skipped f i n k idle = rw idle (omega arith)

pub takers-grow : (f : File) (n i k : ℕ) → i ≤ n → takers f i k ≤ takers f n k
unfolding takers
takers-grow f zero zero k le = omega arith
takers-grow f zero (suc i) k le = absurd (omega arith)
takers-grow f (suc n) i k le = elim (cases_lt i (suc n)) [
  | inl below ↦ (let before = takers-grow f n i k (omega arith) in omega arith)
  | inr above ↦ (let same : i ≡ suc n = omega arith in rw same (omega arith))
]

some_of : (a b : Bool) → (a || b) ≡ true → 1 ≤ cond a 1 0 + cond b 1 0
some_of true b h = omega arith
some_of false true h = omega arith
some_of false false h = absurd cc

owned-parts : (f : File) (i k : ℕ) → is_owned f (suc i) k ≡ true → (is_owned f i k || (takes_bytes f i && within (section f i).offset (section f i).size k)) ≡ true
owned-parts f i k h = sym (is_owned-next f i k) ∙ rw add-one h

-- an owner takes the byte
owned-taken : (f : File) (i k : ℕ) → is_owned f i k ≡ true → 1 ≤ takers f i k
unfolding takers is_owned any_below
owned-taken f zero k h =
    elim (or_cases (within 0 64 k || within f.table (64 * f.count) k) false h) [
      | inl opening ↦ some_of (within 0 64 k) (within f.table (64 * f.count) k) opening
      | inr none ↦ absurd cc
    ]
owned-taken f (suc i) k h =
    let next : takers f (suc i) k ≡ takers f i k + taken_by f i k = refl in
    elim (or_cases (is_owned f i k) (takes_bytes f i && within (section f i).offset (section f i).size k) (owned-parts f i k h)) [
      | inl before ↦ (let some = owned-taken f i k before in omega arith)
      | inr here ↦ (let one : taken_by f i k ≡ 1 = rw here refl in omega arith)
    ]

free : (f : File) (i k : ℕ) → takers f i k ≡ 0 → is_owned f i k ≡ false
free f i k none = elim (cases_Bool (is_owned f i k)) [
  | inl t ↦ absurd (let some = owned-taken f i k t in omega arith)
  | inr is_free ↦ is_free
]

-- no section takes a byte that is taken before it, where none is taken twice
no_overlap : (f : File) (i : ℕ) → i < f.count → ((k : ℕ) → takers f f.count k ≤ 1) → overlap_refusal f i ≡ None
no_overlap f i lt once = elim (cases_Bool (takes_bytes f i)) [
  | inl taking ↦ overlap-none f i (omega arith) (λ k low high.
      let here : taken_by f i k ≡ 1 = rw (taking, within-true (section f i).offset (section f i).size k low high) refl in
      let next = takers-next f i k in
      let most = takers-grow f f.count (i + 1) k (omega arith) in
      let all = once k in
      free f i k (omega arith)) taking
  | inr idle ↦ overlap-empty f i idle
]

none_below : (f : File) (n : ℕ) → n ≤ f.count → ((k : ℕ) → takers f f.count k ≤ 1) → first_below n (overlap_refusal f) ≡ None
unfolding first_below
none_below f zero le once = refl
none_below f (suc n) le once = rw (none_below f n (omega arith) once) (no_overlap f n (omega arith) once)

pub no_overlaps : (f : File) (spans : List Span) (apart : Bool) → ((k : ℕ) → spans_at spans k ≡ takers f f.count k) → apart ≡ true → MatchBool apart (LieApart spans) (ShareByte spans) → first_below f.count (overlap_refusal f) ≡ None
no_overlaps f spans false are wrong apart = absurd cc
no_overlaps f spans true are is apart = none_below f f.count (omega arith) (λ k. subst (λ (n : ℕ). n ≤ 1) (are k) (apart k))
