-- Branches and jumps that are filled in (RISC-V ELF psABI, "Relocations": BRANCH and JAL).
use Rattle.std.specs.Prelude.{ℕ, Bool, false, ◌||◌, not, ◌==◌, ℤ, pos, ◌-ℤ◌, Option, Some, None, if◌then◌else◌}
use Rattle.link_model.specs.declared.kinds.Span.TheVariants.{Branch, Jump}
use Rattle.link_model.specs.Kinds.{in_span}
use Rattle.orc_words.specs.Bits.{low_of}
use Rattle.rv_insn.specs.declared.insn.Insn.{Insn}
use Rattle.rv_insn.specs.declared.insn.Insn.TheVariants.{Jal}
use Rattle.asm_state.specs.declared.marks.Definition.{Definition}
use Rattle.asm_state.specs.declared.marks.Definition.TheVariants.{Label}
use Rattle.asm_state.specs.declared.marks.Marks.{Marks}

abbrev pub label_distance : ℕ → ℕ → Definition → Option ℤ
label_distance section at (Label place offset) = if place == section then Some (pos offset -ℤ pos at) else None
label_distance section at _ = None

-- how far a local label of the same section is from a place
unfoldable pub distance_to : ℕ → ℕ → Marks → Option ℤ
distance_to section at m = if m.global || m.weak then None else label_distance section at m.definition

-- distances are even
abbrev pub is_even : ℤ → Bool
is_even distance = low_of 1 distance == 0

-- a branch or a jump can go so far
unfoldable pub reaches : Insn → ℤ → Bool
reaches (Jal rd imm) distance = in_span Jump distance
reaches _ distance = in_span Branch distance

abbrev pub is_far : Insn → Option ℤ → Bool
is_far insn None = false
is_far insn (Some distance) = not (reaches insn distance)
