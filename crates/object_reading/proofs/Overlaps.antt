-- No two sections of an object's file share a byte, and none has one of the header or the section table.
use Rattle.std.proofs.Common.{◌≡◌, ℕ, zero, suc, ◌+◌, ◌*◌, ◌<◌, true, false, ◌&&◌, nat_lt, length, None, refl, inl, inr, arith}
use Rattle.std.proofs.lemmas.Bool.{and_parts, and_left, and_right, or_from, le-ltb, ltb-true, cases_Bool, both_ways}
use Rattle.elf_read.specs.declared.error.ElfError.TheVariants.{Overlap}
use Rattle.elf_read.specs.declared.object.ElfObject.{ElfObject}
use Rattle.elf_read.specs.Choice.{any_below}
use Rattle.elf_read.specs.File.{File, section}
use Rattle.elf_read.specs.Sections.{meets, is_used, takes_bytes, sections_meet, overlap_refusal}
use Rattle.elf_read.proofs.Ranges.{any_below-none, overlap-empty}
use Rattle.object_reading.specs.Places.{part}
use Rattle.elf_read.proofs.Tables.{when-false}
use Rattle.object_reading.proofs.InFile.{InFile, section_zero}
use Rattle.object_reading.proofs.SectionChecks.{sized}

module _ (o : ElfObject) (f : File) (w : InFile o f) where
  zero_idle : takes_bytes f 0 ≡ false
  unfolding takes_bytes
  zero_idle = and_right (is_used f 0) (nat_lt 0 (section f 0).size) (rw (section_zero f) refl)

  taking_used : (i : ℕ) → takes_bytes f i ≡ true → is_used f i ≡ true
  unfolding takes_bytes
  taking_used i t = (and_parts (is_used f i) (nat_lt 0 (section f i).size) t).0

  module _ (k : ℕ) (lt : k < length w.parts) (taking : takes_bytes f (suc k) ≡ true) where
    offset_is : (section f (suc k)).offset ≡ w.holds.place k
    offset_is = (w.holds.section_is k lt).offset_is

    size_is : (section f (suc k)).size ≡ length (part w.parts k).bytes
    size_is = sized o f w k lt (taking_used (suc k) taking)

  -- an earlier section ends before a later one begins
  apart : (k i : ℕ) → k < length w.parts → takes_bytes f (suc k) ≡ true → i < suc k → (takes_bytes f i && meets (section f (suc k)).offset (section f (suc k)).size (section f i).offset (section f i).size) ≡ true → ⊥
  apart k zero lt taking before t = both_ways _ zero_idle (and_parts _ _ t).0
  apart k (suc j) lt taking before t =
      let parts = and_parts (takes_bytes f (suc j)) (meets (section f (suc k)).offset (section f (suc k)).size (section f (suc j)).offset (section f (suc j)).size) t in
      let low = ltb-true (section f (suc k)).offset ((section f (suc j)).offset + (section f (suc j)).size) (and_parts _ _ parts.1).0 in
      omega (arith, low, offset_is k lt taking, offset_is j (omega arith) parts.0, size_is j (omega arith) parts.0, w.holds.ordered j k (omega arith) lt)

  none_taken : (k : ℕ) → k < length w.parts → takes_bytes f (suc k) ≡ true → overlap_refusal f (suc k) ≡ None
  unfolding overlap_refusal sections_meet
  none_taken k lt taking =
      let start : ℕ = (section f (suc k)).offset in
      let size : ℕ = (section f (suc k)).size in
      let e1 : meets start size 0 64 ≡ false = and_left _ _ (le-ltb start 64 (omega (arith, offset_is k lt taking, w.holds.above k))) in
      let e2 : meets start size f.table (64 * f.count) ≡ false = and_right _ _ (le-ltb f.table (start + size) (omega (arith, offset_is k lt taking, size_is k lt taking, w.holds.below k lt))) in
      let e3 : any_below (suc k) (λ i. takes_bytes f i && meets start size (section f i).offset (section f i).size) ≡ false = any_below-none (suc k) (λ i. takes_bytes f i && meets start size (section f i).offset (section f i).size) (λ i before t. apart k i lt taking before t) in
      when-false _ (Overlap (suc k)) (and_right _ _ (or_from _ _ (or_from _ _ e1 e2) e3))

  pub overlaps_none : (i : ℕ) → i < f.count → overlap_refusal f i ≡ None
  overlaps_none zero lt = overlap-empty f 0 zero_idle
  overlaps_none (suc k) lt = elim (cases_Bool (takes_bytes f (suc k))) [
    | inl taking ↦ none_taken k (omega (arith, w.holds.count_is)) taking
    | inr idle ↦ overlap-empty f (suc k) idle
  ]
