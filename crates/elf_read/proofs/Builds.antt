-- What an object has, as the loops that build it go on.
use Rattle.std.proofs.Common.{◌≡◌, ℕ, ◌+◌, Bool, true, false, cond, map, List, [], ◌∷◌, ◌++◌, refl, sym, ap, ◌∙◌, arith}
use Rattle.std.proofs.lemmas.List.{map_push, append-nil}
use Rattle.std.proofs.lemmas.List.FromFn.{map-range_with_len_more}
use Rattle.elf_read.specs.declared.object.Section.{Section}
use Rattle.elf_read.specs.declared.object.Symbol.{Symbol}
use Rattle.elf_read.specs.File.{File, section}
use Rattle.elf_read.specs.Object.{section_in}
use Rattle.elf_read.specs.Sections.{is_kept}
use Rattle.elf_read.specs.Symbols.{kept_below, numbers, symbol_in}
use Rattle.elf_read.proofs.Tables.{kept_below-next}

pub sections-none : (f : File) → map (section_in f) (kept_below f 0) ≡ []
unfolding kept_below
sections-none f = refl

kept-next : (f : File) (i : ℕ) (b : Bool) → is_kept (section f i) ≡ b → map (section_in f) (kept_below f (i + 1)) ≡ map (section_in f) (kept_below f i ++ cond b (i ∷ []) [])
kept-next f i b is_b = ap (map (section_in f)) (kept_below-next f i ∙ ap (λ (k : Bool). kept_below f i ++ cond k (i ∷ []) []) is_b)

pub sections-kept : (f : File) (i : ℕ) (sections : List Section) (one : Section) → is_kept (section f i) ≡ true → sections ≡ map (section_in f) (kept_below f i) → one ≡ section_in f i → sections ++ one ∷ [] ≡ map (section_in f) (kept_below f (i + 1))
sections-kept f i sections one kept so_far here = rw (so_far, here) (sym (kept-next f i true kept ∙ map_push (section_in f) (kept_below f i) i))

pub sections-passed : (f : File) (i : ℕ) (sections : List Section) → is_kept (section f i) ≡ false → sections ≡ map (section_in f) (kept_below f i) → sections ≡ map (section_in f) (kept_below f (i + 1))
sections-passed f i sections passed so_far = so_far ∙ sym (kept-next f i false passed ∙ ap (map (section_in f)) (append-nil (kept_below f i)))

pub symbols-more : (f : File) (j : ℕ) (symbols : List Symbol) (one : Symbol) → symbols ≡ map (symbol_in f) (numbers j) → one ≡ symbol_in f j → symbols ++ one ∷ [] ≡ map (symbol_in f) (numbers (j + 1))
symbols-more f j symbols one so_far here = rw (so_far, here) (sym (map-range_with_len_more (symbol_in f) 0 j j (omega arith)))
