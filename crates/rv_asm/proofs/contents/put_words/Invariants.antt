use Rattle.std.proofs.Common.{◌≡◌, ℕ, List, length, take}
use Rattle.std.specs.Prelude.{slice_index}
use Rattle.asm_state.specs.declared.section.Code.{Code}
use Rattle.asm_state.specs.Symbols.{Symbols}
use Rattle.rv_asm.specs.Sections.{Encoded}
use Rattle.rv_asm.proofs.contents.put_words.Given as goal

-- the words so far stand at their places
pub record Put (s : Symbols) (section : ℕ) (codes : List Code) (before after : List ℕ) : Type 0 where
  pub len : length after ≡ length before
  pub encoded : Encoded s section codes (slice_index before) (slice_index after)

abbrev pub invariant-loop-code : goal.invariant-loop-code
invariant-loop-code l = Put l.symbols l.section (take l.code-index l.codes) l.fn.bytes l.bytes
