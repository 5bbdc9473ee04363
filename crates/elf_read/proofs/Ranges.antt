-- Ranges of bytes, and which byte has an owner.
use Rattle.std.proofs.Common.{◌≡◌, ℕ, zero, suc, ◌+◌, ◌*◌, ◌<◌, ◌≤◌, max, Bool, true, false, ◌&&◌, ◌||◌, not, ◌==◌, if◌then◌else◌, nat_lt, nat_le, length, Option, Some, None, refl, sym, ap, ◌∙◌, inl, inr, ◌⊎◌, arith}
use Rattle.std.proofs.lemmas.Bool.{lt-ltb, le-leb, le-ltb, lt-leb, ltb-true, leb-true, and_from, and_parts, and_left, and_right, or_left, or_right, or_from, or_cases, or_parts, false_from_ne_true}
use Rattle.std.proofs.lemmas.Bool.{false≢true}
use Rattle.list_laws.proofs.Bools.{or_assoc}
use Rattle.elf_read.specs.declared.error.ElfError.TheVariants.{Overlap, BadTable}
use Rattle.elf_read.specs.declared.error.ElfError.{ElfError}
use Rattle.elf_read.specs.declared.fields.SectionHeader.{SectionHeader}
use Rattle.elf_read.specs.Choice.{when, ◌otherwise◌, first_below, any_below}
use Rattle.elf_read.specs.File.{File, section, lies_in, short}
use Rattle.elf_read.specs.Gabi.{sht_symtab, sht_rela}
use Rattle.elf_read.specs.Index.{within, is_owned}
use Rattle.elf_read.specs.Sections.{meets, is_used, takes_bytes, sections_meet, overlap_refusal, section_refusal, kind_refusal, symtab_refusal, rela_refusal, is_kept, is_small_power}
use Rattle.elf_read.proofs.Firsts.{otherwise-parts, when-none, first_below-at, any_below-next, any_below-found}
use Rattle.elf_read.proofs.Tables.{when-false, when-true}

pub within-true : (start size k : ℕ) → start ≤ k → k < start + size → within start size k ≡ true
within-true start size k low high = and_from _ _ (le-leb start k low) (lt-ltb k (start + size) high)

pub within-facts : (start size k : ℕ) → within start size k ≡ true → (start ≤ k) × (k < start + size)
within-facts start size k h = let p = and_parts (nat_le start k) (nat_lt k (start + size)) h in (leb-true start k p.0, ltb-true k (start + size) p.1)

pub within-false : (start size k : ℕ) → (k < start) ⊎ (start + size ≤ k) → within start size k ≡ false
within-false start size k (inl below) = and_left _ _ (lt-leb start k below)
within-false start size k (inr above) = and_right _ _ (le-ltb k (start + size) above)

pub meets-true : (s n b m : ℕ) → s < b + m → b < s + n → meets s n b m ≡ true
meets-true s n b m low high = and_from _ _ (lt-ltb s (b + m) low) (lt-ltb b (s + n) high)

-- a byte of both ranges
pub meets_at : (s n b m k : ℕ) → s ≤ k → k < s + n → within b m k ≡ true → meets s n b m ≡ true
meets_at s n b m k low high h = let p = within-facts b m k h in meets-true s n b m (omega arith) (omega arith)

-- ranges of positive size that meet have a byte in common
pub record Shares (s n b m : ℕ) : Type 0 where
  pub byte : ℕ
  pub low : s ≤ byte
  pub high : byte < s + n
  pub other : within b m byte ≡ true

pub shared : (s n b m : ℕ) → 0 < n → 0 < m → meets s n b m ≡ true → Shares s n b m
shared s n b m n-pos m-pos h =
    let p = and_parts (nat_lt s (b + m)) (nat_lt b (s + n)) h in
    let low : s < b + m = ltb-true s (b + m) p.0 in
    let high : b < s + n = ltb-true b (s + n) p.1 in
    record { byte = max s b; low = omega arith; high = omega arith; other = within-true b m (max s b) (omega arith) (omega arith) }

-- ---- what holds of some number below another

pub any_below-from : (n : ℕ) (p q : ℕ → Bool) → ((k : ℕ) → k < n → p k ≡ true → q k ≡ true) → any_below n p ≡ true → any_below n q ≡ true
unfolding any_below
any_below-from zero p q goes h = h
any_below-from (suc n) p q goes h =
    elim (or_cases (any_below n p) (p n) h) [
      | inl below ↦ or_left _ _ (any_below-from n p q (λ k lt. goes k (omega arith)) below)
      | inr here ↦ or_right _ _ (goes n (omega arith) here)
    ]

some_below : (n : ℕ) (p : ℕ → Bool) → ((k : ℕ) → k < n → p k ≡ true → ⊥) → any_below n p ≡ true → ⊥
unfolding any_below
some_below zero p none h = absurd cc
some_below (suc n) p none h =
    elim (or_cases (any_below n p) (p n) h) [
      | inl below ↦ some_below n p (λ k lt. none k (omega arith)) below
      | inr here ↦ none n (omega arith) here
    ]

pub any_below-none : (n : ℕ) (p : ℕ → Bool) → ((k : ℕ) → k < n → p k ≡ true → ⊥) → any_below n p ≡ false
any_below-none n p none = false_from_ne_true (any_below n p) (some_below n p none)

-- ---- owners

pub is_owned-next : (f : File) (i k : ℕ) → is_owned f (i + 1) k ≡ (is_owned f i k || (takes_bytes f i && within (section f i).offset (section f i).size k))
unfolding is_owned
is_owned-next f i k =
    ap (λ (b : Bool). (within 0 64 k || within f.table (64 * f.count) k) || b) (any_below-next i (λ j. takes_bytes f j && within (section f j).offset (section f j).size k))
    ∙ sym (or_assoc (within 0 64 k || within f.table (64 * f.count) k) _ _)

-- a byte of a section that has an owner already
pub overlap-true : (f : File) (i k : ℕ) → takes_bytes f i ≡ true → (section f i).offset ≤ k → k < (section f i).offset + (section f i).size → is_owned f i k ≡ true → overlap_refusal f i ≡ Some (Overlap i)
unfolding is_owned overlap_refusal sections_meet
overlap-true f i k taking low high owned =
    let s : SectionHeader = section f i in
    when-true _ (Overlap i) (and_from _ _ taking (
    elim (or_cases (within 0 64 k || within f.table (64 * f.count) k) _ owned) [
      | inl first ↦
          elim (or_cases (within 0 64 k) (within f.table (64 * f.count) k) first) [
            | inl header ↦ or_left _ _ (or_left _ _ (meets_at s.offset s.size 0 64 k low high header))
            | inr table ↦ or_left _ _ (or_right _ _ (meets_at s.offset s.size f.table (64 * f.count) k low high table))
          ]
      | inr other ↦
          or_right _ _ (
          any_below-from i (λ j. takes_bytes f j && within (section f j).offset (section f j).size k) (λ j. takes_bytes f j && meets s.offset s.size (section f j).offset (section f j).size)
          (λ j lt h. let p = and_parts (takes_bytes f j) _ h in and_from _ _ p.0 (meets_at s.offset s.size (section f j).offset (section f j).size k low high p.1))
          other)
    ]))

-- a section none of whose bytes has an owner
pub overlap-none : (f : File) (i : ℕ) → 0 < f.count → ((k : ℕ) → (section f i).offset ≤ k → k < (section f i).offset + (section f i).size → is_owned f i k ≡ false) → takes_bytes f i ≡ true → overlap_refusal f i ≡ None
unfolding is_owned overlap_refusal sections_meet takes_bytes
overlap-none f i some free taking =
    let s : SectionHeader = section f i in
    let positive : 0 < s.size = ltb-true 0 s.size (and_parts (is_used f i) (nat_lt 0 s.size) taking).1 in
    let none : (b m : ℕ) → 0 < m → ((k : ℕ) → s.offset ≤ k → k < s.offset + s.size → within b m k ≡ false) → meets s.offset s.size b m ≡ false =
    λ b m m-pos apart. false_from_ne_true _ (λ h. let x = shared s.offset s.size b m positive m-pos h in false≢true (sym (apart x.byte x.low x.high) ∙ x.other)) in
    when-false _ (Overlap i) (and_right _ _ (
    or_from _ _
    (or_from _ _
    (none 0 64 (omega arith) (λ k low high. (or_parts _ _ (or_parts _ _ (free k low high)).0).0))
    (none f.table (64 * f.count) (omega arith) (λ k low high. (or_parts _ _ (or_parts _ _ (free k low high)).0).1)))
    (any_below-none i (λ j. takes_bytes f j && meets s.offset s.size (section f j).offset (section f j).size) (λ j lt h.
    let p = and_parts (takes_bytes f j) _ h in
    let other : 0 < (section f j).size = ltb-true 0 (section f j).size (and_parts (is_used f j) (nat_lt 0 (section f j).size) p.0).1 in
    let x = shared s.offset s.size (section f j).offset (section f j).size positive other p.1 in
    let there : any_below i (λ j. takes_bytes f j && within (section f j).offset (section f j).size x.byte) ≡ true =
    any_below-found i j (λ j. takes_bytes f j && within (section f j).offset (section f j).size x.byte) (and_from _ _ p.0 x.other) lt in
    false≢true (sym (or_parts _ _ (free x.byte x.low x.high)).1 ∙ there)))))

-- a section that takes no bytes
pub overlap-empty : (f : File) (i : ℕ) → takes_bytes f i ≡ false → overlap_refusal f i ≡ None
unfolding overlap_refusal
overlap-empty f i h = when-false _ (Overlap i) (and_left _ _ h)

-- the last of five checks
last : (a b c d : Option ElfError) (test : Bool) (e : ElfError) → (a otherwise b otherwise c otherwise d otherwise when test e) ≡ None → test ≡ false
last a b c d test e h = when-none test e (otherwise-parts d _ (otherwise-parts c _ (otherwise-parts b _ (otherwise-parts a _ h).1).1).1).1

inside : (a b : Bool) → a ≡ true → (a && not b) ≡ false → b ≡ true
inside true true used h = refl
inside true false used h = absurd cc
inside false b used h = absurd cc

-- what the sections' checks say of a used section: it lies in the file
pub used-inside : (f : File) (i : ℕ) → first_below f.count (section_refusal f) ≡ None → i < f.count → is_used f i ≡ true → lies_in f.bytes (section f i).offset (section f i).size ≡ true
unfolding section_refusal
used-inside f i none lt used =
    inside (is_used f i) (lies_in f.bytes (section f i).offset (section f i).size) used
    (last (kind_refusal (section f i)) (when (is_kept (section f i) && not ((section f i).align == 0 || is_small_power (section f i).align)) (BadTable i)) (if (section f i).kind == sht_symtab then symtab_refusal f i else None) (if (section f i).kind == sht_rela then rela_refusal f i else None) (is_used f i && not (lies_in f.bytes (section f i).offset (section f i).size)) (short f.bytes (section f i).offset) (first_below-at f.count i (section_refusal f) none lt))

pub takes-inside : (f : File) (i : ℕ) → (is_used f i ≡ true → lies_in f.bytes (section f i).offset (section f i).size ≡ true) → takes_bytes f i ≡ true → (section f i).offset + (section f i).size ≤ length f.bytes
unfolding takes_bytes
takes-inside f i is_inside taking = leb-true _ _ (is_inside (and_parts (is_used f i) (nat_lt 0 (section f i).size) taking).0)

or-false : (a : Bool) → (a || false) ≡ a
or-false true = refl
or-false false = refl

pub is_owned-skip : (f : File) (i k : ℕ) → takes_bytes f i ≡ false → is_owned f (i + 1) k ≡ is_owned f i k
is_owned-skip f i k idle = is_owned-next f i k ∙ rw idle (or-false (is_owned f i k))

pub is_owned-take : (f : File) (i k : ℕ) → takes_bytes f i ≡ true → is_owned f (i + 1) k ≡ (is_owned f i k || within (section f i).offset (section f i).size k)
is_owned-take f i k taking = is_owned-next f i k ∙ rw taking refl

pub is_owned-first : (f : File) (k : ℕ) (old mid new : Bool) → old ≡ false → mid ≡ (old || within 0 64 k) → new ≡ (mid || within f.table (64 * f.count) k) → new ≡ is_owned f 0 k
unfolding is_owned any_below
is_owned-first f k old mid new none header table = table ∙ ap (λ (b : Bool). b || within f.table (64 * f.count) k) (header ∙ ap (λ (b : Bool). b || within 0 64 k) none) ∙ sym (or-false _)
