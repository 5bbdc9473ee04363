-- The relocations of a section, which lie in the file where the sections were checked.
use Rattle.std.proofs.Common.{◌≡◌, ℕ, zero, suc, ◌+◌, ◌<◌, Bool, true, false, ◌&&◌, ◌||◌, nat_le, ◌==◌, length, unwrap_or, map, List, [], ◌∷◌, ◌++◌, Option, Some, None, refl, sym, ap, ◌∙◌, arith}
use Rattle.std.proofs.lemmas.Bool.{and_parts, eqb-true, or_left, or_right, and_from, le-leb}
use Rattle.std.proofs.lemmas.List.FromFn.{map-range_with_len_more}
use Rattle.elf_read.specs.declared.fields.SectionHeader.{SectionHeader}
use Rattle.elf_read.specs.declared.object.Reloc.{Reloc}
use Rattle.elf_read.specs.Choice.{when, ◌otherwise◌, first_below}
use Rattle.elf_read.specs.File.{File, section, lies_in}
use Rattle.elf_read.specs.Gabi.{sht_rela, sht_symtab}
use Rattle.elf_read.specs.Sections.{is_kept, is_used, has_kept_bytes, is_symtab, is_strings, is_kept_rela, symtab, symtab_of, rela_of, section_refusal}
use Rattle.elf_read.specs.Symbols.{reloc, numbers, is_no_symbol, symbol_count}
use Rattle.elf_read.proofs.Ranges.{used-inside}

abbrev pub bad_at : File → SectionHeader → ℕ → Bool
bad_at f s k = is_no_symbol f (reloc f s k).symbol

-- where the first that is there stands
pub record FoundAt {A : Type 0} (n : ℕ) (f : ℕ → Option A) (x : A) : Type 0 where
  pub at : ℕ
  pub below : at < n
  pub is : f at ≡ Some x

split : {A : Type 0} (n : ℕ) (f : ℕ → Option A) (x : A) (o : Option A) → first_below n f ≡ o → (first_below n f ≡ Some x → FoundAt n f x) → (o otherwise f n) ≡ Some x → FoundAt (suc n) f x
split n f x None e below h = record { at = n; below = omega arith; is = h }
split n f x (Some y) e below h = let found = below (e ∙ h) in record { at = found.at; below = omega (arith, found.below); is = found.is }

pub first_below-Some : {A : Type 0} (n : ℕ) (f : ℕ → Option A) (x : A) → first_below n f ≡ Some x → FoundAt n f x
unfolding first_below
first_below-Some zero f x h = absurd cc
first_below-Some (suc n) f x h = split n f x (first_below n f) refl (first_below-Some n f x) h

used-symtab : (f : File) (i : ℕ) → is_symtab f i ≡ true → is_used f i ≡ true
unfolding is_used
used-symtab f i h =
    or_left (((has_kept_bytes f i || is_symtab f i) || is_strings f i) || i == f.names) (is_kept_rela f i)
    (or_left ((has_kept_bytes f i || is_symtab f i) || is_strings f i) (i == f.names)
    (or_left (has_kept_bytes f i || is_symtab f i) (is_strings f i) (or_right (has_kept_bytes f i) (is_symtab f i) h)))

used-rela : (f : File) (i : ℕ) → is_kept_rela f i ≡ true → is_used f i ≡ true
unfolding is_used
used-rela f i h = or_right (((has_kept_bytes f i || is_symtab f i) || is_strings f i) || i == f.names) (is_kept_rela f i) h

when-Some : (test : Bool) (k x : ℕ) → when test k ≡ Some x → (test ≡ true) × (k ≡ x)
when-Some true k x h = (refl, cc)
when-Some false k x h = absurd cc

-- the relocations of a kept section lie in the file
pub rela-inside : (f : File) (i r : ℕ) → first_below f.count (section_refusal f) ≡ None → is_kept (section f i) ≡ true → rela_of f i ≡ Some r → lies_in f.bytes (section f r).offset (section f r).size ≡ true
unfolding rela_of
rela-inside f i r sections kept is_rela =
    let found = first_below-Some f.count (λ k. when ((section f k).kind == sht_rela && (section f k).info == i) k) r is_rela in
    let test = when-Some ((section f found.at).kind == sht_rela && (section f found.at).info == i) found.at r found.is in
    let parts = and_parts ((section f found.at).kind == sht_rela) ((section f found.at).info == i) test.0 in
    let info : (section f found.at).info ≡ i = eqb-true (section f found.at).info i parts.1 in
    let same : found.at ≡ r = test.1 in
    let below : r < f.count = omega (arith, found.below) in
    let kept_info : is_kept (section f (section f found.at).info) ≡ true = ap (λ (k : ℕ). is_kept (section f k)) info ∙ kept in
    let used : is_used f found.at ≡ true = used-rela f found.at (and_from ((section f found.at).kind == sht_rela) (is_kept (section f (section f found.at).info)) parts.0 kept_info) in
    rw same at (used-inside f found.at sections found.below used)

zero-inside : (f : File) → lies_in f.bytes (section f 0).offset (section f 0).size ≡ true
unfolding section
zero-inside f = le-leb 0 (length f.bytes) (omega arith)

symtab-at : (f : File) (o : Option ℕ) → first_below f.count (section_refusal f) ≡ None → symtab_of f ≡ o → lies_in f.bytes (section f (unwrap_or o 0)).offset (section f (unwrap_or o 0)).size ≡ true
unfolding symtab_of
symtab-at f None sections e = zero-inside f
symtab-at f (Some r) sections e =
    let found = first_below-Some f.count (λ k. when ((section f k).kind == sht_symtab) k) r e in
    let test = when-Some ((section f found.at).kind == sht_symtab) found.at r found.is in
    let used : is_used f found.at ≡ true = used-symtab f found.at test.0 in
    rw test.1 at (used-inside f found.at sections found.below used)

-- the symbol table lies in the file
pub symtab-inside : (f : File) → first_below f.count (section_refusal f) ≡ None → lies_in f.bytes (symtab f).offset (symtab f).size ≡ true
unfolding symtab
symtab-inside f sections = symtab-at f (symtab_of f) sections refl

-- one more relocation
pub relocs-more : (f : File) (s : SectionHeader) (k : ℕ) (relocs : List Reloc) (one : Reloc) → relocs ≡ map (reloc f s) (numbers k) → one ≡ reloc f s k → relocs ++ one ∷ [] ≡ map (reloc f s) (numbers (k + 1))
relocs-more f s k relocs one so_far here = rw (so_far, here) (sym (map-range_with_len_more (reloc f s) 0 k k (omega arith)))

pub bad_is : (f : File) (s : SectionHeader) (k count : ℕ) (one : Reloc) (b : Bool) → count ≡ symbol_count f → one ≡ reloc f s k → (nat_le count one.symbol || one.symbol == 0xffffffff) ≡ b → bad_at f s k ≡ b
bad_is f s k count one b is_count is_one h = rw (is_count, is_one) at h
