-- Branches and jumps to local labels of their section, which are filled in, and those that can't go so
-- far (RISC-V ELF psABI, "Relocations": BRANCH and JAL).
use Rattle.std.specs.Prelude.{ℕ, ◌+◌, min, Bool, ◌&&◌, List, [], ◌∷◌, ℤ, Option, Some, None, is_some, if◌then◌else◌}
use Rattle.rv_insn.specs.declared.insn.Insn.{Insn}
use Rattle.rv_insn.specs.declared.insn.Insn.TheVariants.{Beq, Bne, Blt, Bge, Bltu, Bgeu, Jal}
use Rattle.asm_state.specs.declared.section.Code.{Code}
use Rattle.asm_state.specs.declared.section.Patch.{Patch}
use Rattle.asm_state.specs.declared.section.Target.{Target}
use Rattle.asm_state.specs.Reach.{distance_to, is_far}
use Rattle.asm_state.specs.Sections.{Made}
use Rattle.asm_state.specs.Symbols.{Symbols, marks_at}

-- how far a symbol is from a place of a section, where it is a local label of that section
unfoldable pub distance : Symbols → ℕ → ℕ → ℕ → Option ℤ
distance s section at symbol = distance_to section at (marks_at symbol s)

-- ---- what stands there

abbrev pub with_distance : ℤ → Insn → Insn
with_distance d (Beq rs1 rs2 imm) = Beq rs1 rs2 d
with_distance d (Bne rs1 rs2 imm) = Bne rs1 rs2 d
with_distance d (Blt rs1 rs2 imm) = Blt rs1 rs2 d
with_distance d (Bge rs1 rs2 imm) = Bge rs1 rs2 d
with_distance d (Bltu rs1 rs2 imm) = Bltu rs1 rs2 d
with_distance d (Bgeu rs1 rs2 imm) = Bgeu rs1 rs2 d
with_distance d (Jal rd imm) = Jal rd d
with_distance d insn = insn

abbrev pub going : Option ℤ → Insn → Insn
going None insn = insn
going (Some d) insn = with_distance d insn

-- the distance that an instruction is filled in with, if it is
abbrev pub target_distance : Symbols → ℕ → ℕ → Option Target → Option ℤ
target_distance s section at None = None
target_distance s section at (Some target) = distance s section at target.symbol

-- the instruction as it stands in its section
unfoldable pub filled : Symbols → ℕ → Code → Insn
filled s section c = going (target_distance s section c.at c.target) c.insn

-- ---- relocations that don't stand

abbrev pub patch_distance : Symbols → ℕ → ℕ → Option ℕ → Option ℤ
patch_distance s section at None = None
patch_distance s section at (Some symbol) = distance s section at symbol

-- the relocation of a branch that is filled in
unfoldable pub is_filled : Symbols → ℕ → Patch → Bool
is_filled s section p = p.fills && is_some (patch_distance s section p.at p.symbol)

-- ---- branches that can't go so far

-- the lesser of two line numbers
abbrev pub lesser : Option ℕ → Option ℕ → Option ℕ
lesser None line = line
lesser (Some line) None = Some line
lesser (Some line) (Some other) = Some (min line other)

-- the line of a branch whose label is too far
abbrev pub far_target : Symbols → ℕ → ℕ → Insn → Option Target → Option ℕ
far_target s section at insn None = None
far_target s section at insn (Some target) = if is_far insn (distance s section at target.symbol) then Some target.line else None

unfoldable pub far_line : Symbols → ℕ → Code → Option ℕ
far_line s section c = far_target s section c.at c.insn c.target

-- the first line with such a branch, among instructions of a section
abbrev pub first_far_in : Symbols → ℕ → List Code → Option ℕ
first_far_in s section [] = None
first_far_in s section (c ∷ cs) = lesser (far_line s section c) (first_far_in s section cs)

-- the same among sections, which are numbered from this one on
abbrev pub first_far_from : Symbols → ℕ → List Made → Option ℕ
first_far_from s section [] = None
first_far_from s section (m ∷ ms) = lesser (first_far_in s section m.code) (first_far_from s (section + 1) ms)
