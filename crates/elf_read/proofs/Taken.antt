-- The names of the symbols that others may see, as the loop over the symbols goes on.
use Rattle.std.proofs.Common.{◌≡◌, ℕ, ◌+◌, ◌≤◌, Bool, true, false, ◌&&◌, ◌||◌, List, None, refl, ◌∙◌, arith}
use Rattle.std.specs.Str.{bytes_eq}
use Rattle.elf_read.specs.Choice.{first_below, any_below}
use Rattle.elf_read.specs.File.{File}
use Rattle.elf_read.specs.Symbols.{is_global, is_taken, symbol_name, symbol_refusal, symbol_count}
use Rattle.elf_read.proofs.Firsts.{any_below-next}

pub is_taken-next : (f : File) (j : ℕ) (q : List ℕ) → is_taken f (j + 1) q ≡ (is_taken f j q || (is_global f j && bytes_eq q (symbol_name f j)))
unfolding is_taken
is_taken-next f j q = any_below-next j (λ k. is_global f k && bytes_eq q (symbol_name f k))

or-false : (a : Bool) → (a || false) ≡ a
or-false true = refl
or-false false = refl

or_comm : (a b : Bool) → (a || b) ≡ (b || a)
or_comm true true = refl
or_comm true false = refl
or_comm false true = refl
or_comm false false = refl

-- a local symbol adds no name
pub is_taken-local : (f : File) (j : ℕ) (q : List ℕ) → is_global f j ≡ false → is_taken f (j + 1) q ≡ is_taken f j q
is_taken-local f j q is_local = is_taken-next f j q ∙ rw is_local (or-false (is_taken f j q))

pub is_taken-global : (f : File) (j : ℕ) (q : List ℕ) → is_global f j ≡ true → is_taken f (j + 1) q ≡ (bytes_eq q (symbol_name f j) || is_taken f j q)
is_taken-global f j q global = is_taken-next f j q ∙ rw global (or_comm (is_taken f j q) (bytes_eq q (symbol_name f j)))

-- symbol 0 adds none
pub is_taken-first : (f : File) (q : List ℕ) → is_taken f 1 q ≡ false
unfolding is_taken is_global any_below
is_taken-first f q = refl

pub refusal-first : (f : File) → first_below 1 (symbol_refusal f) ≡ None
unfolding first_below symbol_refusal
refusal-first f = refl

pub symbol_count-positive : (f : File) → 1 ≤ symbol_count f
unfolding symbol_count
symbol_count-positive f = omega arith
