-- A file that is read passes each check of its sections, symbols and relocations.
use Rattle.std.proofs.Common.{◌≡◌, ℕ, ◌+◌, ◌<◌, Bool, true, false, not, ◌&&◌, ◌||◌, ◌==◌, nat_lt, nat_le, List, length, Option, Some, None, Ok, refl, sym, ◌∙◌, inl, inr}
use Rattle.std.specs.Prelude.{is_none, if◌then◌else◌}
use Rattle.std.proofs.lemmas.Bool.{cases_Bool, false≢true, not-false}
use Rattle.elf_read.proofs.Firsts.{otherwise-parts, when-none, first_below-at, any_below-found}
use Rattle.elf_read.specs.Choice.{when, ◌otherwise◌, first_below, any_below}
use Rattle.elf_read.specs.File.{File, file_of, section, short}
use Rattle.elf_read.specs.Gabi.{stb_local, stb_weak, shn_xindex, sht_symtab, sht_rela}
use Rattle.elf_read.specs.Object.{object_of, object_in, refusal_of, unless}
use Rattle.elf_read.specs.Sections.{opening_refusal, section_refusal, name_refusal, overlap_refusal, kind_refusal, symtab_refusal, rela_refusal, rela_of, is_kept, is_small_power, is_used}
use Rattle.elf_read.specs.Symbols.{symbol_refusal, own_refusal, relocs_refusal, entries_refusal, symbol_count, entry, name_of, symbol_name, is_misplaced, is_global, is_taken, is_bad_name}
use Rattle.elf_read.specs.declared.error.ElfError.{ElfError}
use Rattle.elf_read.specs.declared.error.ElfError.TheVariants.{BadTable, BadSymbol, NotBuilt}
use Rattle.elf_read.specs.declared.error.NotBuiltKind.TheVariants.{Bind, Xindex}
use Rattle.elf_read.specs.declared.object.ElfObject.{ElfObject}

pub record Passes (f : File) : Type 0 where
  pub sections : (i : ℕ) → i < f.count → section_refusal f i ≡ None
  pub symbols : (j : ℕ) → j < symbol_count f → symbol_refusal f j ≡ None
  pub relocs : (i : ℕ) → i < f.count → relocs_refusal f i ≡ None

none_from_ok : (refusal : Option ElfError) (x o : ElfObject) → unless refusal x ≡ Ok o → refusal ≡ None
none_from_ok None x o h = refl
none_from_ok (Some e) x o h = absurd cc

not_refused : (bytes : List ℕ) (o : ElfObject) → object_of bytes ≡ Ok o → refusal_of bytes ≡ None
unfolding object_of
not_refused bytes o h = none_from_ok (refusal_of bytes) (object_in (file_of bytes)) o h

pub passes : (bytes : List ℕ) (o : ElfObject) → object_of bytes ≡ Ok o → Passes (file_of bytes)
unfolding refusal_of
passes bytes o h =
    let f = file_of bytes in
    let e : Option ElfError = first_below f.count (relocs_refusal f) in
    let d : Option ElfError = first_below (symbol_count f) (symbol_refusal f) otherwise e in
    let c : Option ElfError = first_below f.count (overlap_refusal f) otherwise d in
    let b : Option ElfError = first_below f.count (name_refusal f) otherwise c in
    let a : Option ElfError = first_below f.count (section_refusal f) otherwise b in
    let first = otherwise-parts (opening_refusal bytes) a (not_refused bytes o h) in
    let second = otherwise-parts (first_below f.count (section_refusal f)) b first.1 in
    let third = otherwise-parts (first_below f.count (name_refusal f)) c second.1 in
    let fourth = otherwise-parts (first_below f.count (overlap_refusal f)) d third.1 in
    let fifth = otherwise-parts (first_below (symbol_count f) (symbol_refusal f)) e fourth.1 in
    record {
      sections = λ i lt. first_below-at f.count i (section_refusal f) second.0 lt;
      symbols = λ j lt. first_below-at (symbol_count f) j (symbol_refusal f) fifth.0 lt;
      relocs = λ i lt. first_below-at f.count i (relocs_refusal f) fifth.1 lt;
    }

-- the test that is left where the first part of a conjunction holds
pub second_false : (x y : Bool) → x ≡ true → (x && y) ≡ false → y ≡ false
second_false true y t h = h
second_false false y t h = absurd (false≢true t)

-- a kept section's alignment is 0 or a power of two up to 4,096
pub section_align : (f : File) (i : ℕ) → section_refusal f i ≡ None → is_kept (section f i) ≡ true → ((section f i).align == 0 || is_small_power (section f i).align) ≡ true
unfolding section_refusal
section_align f i h kept =
    let s = section f i in
    let last : Option ElfError = when (is_used f i && not (nat_le (s.offset + s.size) (length f.bytes))) (short f.bytes s.offset) in
    let rela : Option ElfError = (if s.kind == sht_rela then rela_refusal f i else None) otherwise last in
    let table : Option ElfError = (if s.kind == sht_symtab then symtab_refusal f i else None) otherwise rela in
    let test = is_kept s && not (s.align == 0 || is_small_power s.align) in
    let first = otherwise-parts (kind_refusal s) (when test (BadTable i) otherwise table) h in
    let second = otherwise-parts (when test (BadTable i)) table first.1 in
    not-false (s.align == 0 || is_small_power s.align) (second_false (is_kept s) (not (s.align == 0 || is_small_power s.align)) kept (when-none test (BadTable i) second.0))

-- a symbol but the first is checked by itself, and among those before it
not_first : (j : ℕ) (o : Option ElfError) → (j == 0) ≡ false → (if j == 0 then None else o) ≡ None → o ≡ None
not_first j o e h = rw e at h

pub symbol_own : (f : File) (j : ℕ) → (j == 0) ≡ false → symbol_refusal f j ≡ None → own_refusal f j ≡ None
unfolding symbol_refusal
symbol_own f j e h =
    let taken : Option ElfError = when (is_global f j && is_taken f j (symbol_name f j)) (BadSymbol j) in
    (otherwise-parts (own_refusal f j) taken (not_first j (own_refusal f j otherwise taken) e h)).0

pub symbol_fresh : (f : File) (j : ℕ) → (j == 0) ≡ false → symbol_refusal f j ≡ None → (is_global f j && is_taken f j (symbol_name f j)) ≡ false
unfolding symbol_refusal
symbol_fresh f j e h =
    let test = is_global f j && is_taken f j (symbol_name f j) in
    let taken : Option ElfError = when test (BadSymbol j) in
    when-none test (BadSymbol j) (otherwise-parts (own_refusal f j) taken (not_first j (own_refusal f j otherwise taken) e h)).1

pub symbol_placed : (f : File) (j : ℕ) → own_refusal f j ≡ None → is_misplaced f (entry f j) ≡ false
unfolding own_refusal
symbol_placed f j h =
    let e = entry f j in
    let bad : Option ElfError = when (not (e.bind == stb_local) && is_bad_name (symbol_name f j)) (BadSymbol j) in
    let misplaced : Option ElfError = when (is_misplaced f e) (BadSymbol j) otherwise bad in
    let index : Option ElfError = when (e.section == shn_xindex) (NotBuilt Xindex) otherwise misplaced in
    let bind : Option ElfError = when (nat_lt stb_weak e.bind) (NotBuilt Bind) otherwise index in
    let first = otherwise-parts (when (is_none (name_of f e)) (BadSymbol j)) bind h in
    let second = otherwise-parts (when (nat_lt stb_weak e.bind) (NotBuilt Bind)) index first.1 in
    let third = otherwise-parts (when (e.section == shn_xindex) (NotBuilt Xindex)) misplaced second.1 in
    let fourth = otherwise-parts (when (is_misplaced f e) (BadSymbol j)) bad third.1 in
    when-none (is_misplaced f e) (BadSymbol j) fourth.0

-- the relocations of a kept section are checked
pub section_entries : (f : File) (i : ℕ) → relocs_refusal f i ≡ None → is_kept (section f i) ≡ true → entries_refusal f (rela_of f i) ≡ None
unfolding relocs_refusal
section_entries f i h kept = rw kept at h

-- nothing below a number passes
pub none_below : (n i : ℕ) (p : ℕ → Bool) → any_below n p ≡ false → i < n → p i ≡ false
none_below n i p none lt = elim (cases_Bool (p i)) [
  | inl here ↦ absurd (false≢true (sym none ∙ any_below-found n i p here lt))
  | inr not_here ↦ not_here
]
