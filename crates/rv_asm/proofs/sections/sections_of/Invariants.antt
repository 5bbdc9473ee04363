use Rattle.std.proofs.Common.{◌≡◌, ℕ, ◌+◌, List, length, Some}
use Rattle.std.specs.Prelude.{slice_get, All}
use Rattle.elf_read.specs.declared.object.Section.{Section}
use Rattle.asm_text.specs.Known.{Known}
use Rattle.rv_asm.specs.Sections.{IsSection, name_at, made_at}
use Rattle.rv_asm.specs.Typed.{Typed}
use Rattle.rv_asm.proofs.sections.sections_of.Given as goal

-- the first sections, each by its number
pub record Firsts (k : Known) (symbols : ℕ) (sections : List Section) (n : ℕ) : Type 0 where
  pub count : length sections ≡ n
  pub each : (i : ℕ) (s : Section) → slice_get sections i ≡ Some s → IsSection k.symbols i (name_at k i) (made_at k i) s
  pub typed : All (Typed symbols) sections

abbrev pub invariant-loop-section : goal.invariant-loop-section
invariant-loop-section l = Firsts l.known (1 + length l.order) l.items.items l.section
