-- What the types of a section's fields say of them.
use Rattle.std.proofs.Common.{◌≡◌, ℕ, suc, ◌+◌, ◌<◌, Bool, true, false, ℤ, pos, negsuc, FitsSigned, w64, List, [], ◌∷◌, length, if◌then◌else◌, arith}
use Rattle.std.specs.Prelude.{◌==◌}
use Rattle.std.proofs.lemmas.Bool.Decides.{nat_tests}
use Rattle.orc_words.specs.Bits.{fits_bits}
use Rattle.std.proofs.lemmas.List.{length-map}
use Rattle.asm_lines.specs.declared.statement.SectionKind.{SectionKind}
use Rattle.asm_lines.specs.declared.statement.SectionKind.TheVariants.{Text, Data, Bss, ReadOnly}
use Rattle.asm_state.specs.Sections.{is_bss}
use Rattle.rv_asm.specs.Sections.{section_type}
use Rattle.rv_asm.specs.Symbols.{place_from}

pub ruleset counts = (length-map)

-- a place is one of the list, or none
place_below : (k n : ℕ) (ms : List ℕ) → 0 < k → place_from k n ms < k + length ms
place_below k n [] lt = omega (arith, lt)
place_below k n (m ∷ ms) lt = chosen (m == n) (place_from (k + 1) n ms) (place_below (k + 1) n ms (omega arith)) where
  chosen : (t : Bool) (more : ℕ) → more < k + 1 + length ms → (if t then k else more) < k + suc (length ms)
  chosen true more h = omega arith
  chosen false more h = omega (arith, h)

pub place_inside : (n : ℕ) (ms : List ℕ) → place_from 1 n ms < 1 + length ms
place_inside n ms = place_below 1 n ms (omega arith)

-- what fits the bits of a type
pub fits_signed : (z : ℤ) → FitsSigned w64 z → fits_bits 64 z ≡ true
fits_signed (pos k) h = grind (arith, nat_tests, h)
fits_signed (negsuc k) h = grind (arith, nat_tests, h)

-- only sections of zeros have no bytes in the file
pub sized : (kind : SectionKind) (size n : ℕ) → n ≡ (if is_bss kind then 0 else size) → n ≡ (if section_type kind == 8 then 0 else size)
sized Text size n h = h
sized Data size n h = h
sized Bss size n h = h
sized ReadOnly size n h = h
