-- What a fetch finds.
use Rattle.std.specs.Prelude.{◌≡◌, ℕ, Some, None}
use Rattle.rv_insn.specs.declared.flat.FlatInsn.{FlatInsn}
use Rattle.rv_insn.specs.declared.insn.Insn.{Insn}
use Rattle.rv_insn.specs.Flat.{insn_of, HasRegisters}
use Rattle.rv_insn.specs.Rows.{Fits}
use Rattle.rv_hart.specs.declared.memory.Fetched.{Fetched}
use Rattle.rv_hart.specs.declared.memory.Fetched.TheVariants.{Known, Illegal, Unmapped}
use Rattle.rv_hart.specs.Map.{Map, read}

-- the word at an address is this instruction's
pub record IsKnown (map : Map) (at : ℕ) (insn : FlatInsn) : Type 0 where
  pub word : ℕ
  pub there : read map at 4 ≡ Some word
  pub fits : Fits (insn_of insn) word
  pub registers : HasRegisters insn

-- the word at an address is no instruction's
pub record IsIllegal (map : Map) (at word : ℕ) : Type 0 where
  pub there : read map at 4 ≡ Some word
  pub none : (insn : Insn) → Fits insn word → ⊥

-- what stands at an address
abbrev pub IsFetched : Map → ℕ → Fetched → Type 0
IsFetched map at (Known insn) = IsKnown map at insn
IsFetched map at (Illegal word) = IsIllegal map at word
IsFetched map at Unmapped = read map at 4 ≡ None
