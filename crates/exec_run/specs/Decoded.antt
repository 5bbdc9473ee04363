-- Instructions that are kept once they were decoded.
use Rattle.std.specs.Prelude.{◌≡◌, ◌≢◌, ◌⊎◌, ℕ, Option, Some, None, ◌+◌, ◌-◌, ◌/◌, ◌%◌, ◌≤◌, ◌==◌, List, length, slice_get, bit_and, if◌then◌else◌}
use Rattle.rv_insn.specs.declared.flat.FlatInsn.{FlatInsn}
use Rattle.rv_hart.specs.Fetched.{IsKnown}
use Rattle.code_memory.specs.declared.image.Segment.{Segment}
use Rattle.code_memory.specs.Mapped.{byte_at}
use Rattle.exec_run.specs.declared.decoded.Place.{Place}
use Rattle.exec_run.specs.declared.host.TheConstants.{STACK_START}
use Rattle.exec_run.specs.Regions.{HasTop, with_top}

-- the place for an address, of so many
abbrev pub place_of : ℕ → ℕ → ℕ
place_of count at = bit_and (at / 4) (count - 1)

-- what a place keeps of an address: its instruction, where it stands there
abbrev pub kept_in : Option Place → ℕ → Option FlatInsn
kept_in None at = None
kept_in (Some p) at = if p.at == at then Some p.insn else None

-- what places keep of an address
unfoldable pub kept_at : List Place → ℕ → Option FlatInsn
kept_at places at = kept_in (slice_get places (place_of (length places) at)) at

-- of the words that are kept, this may be new, with this instruction, and all others were kept before
abbrev pub IsKept : List Place → List Place → ℕ → FlatInsn → Type 0
IsKept old new word insn =
    (at : ℕ) (i : FlatInsn) → at % 4 ≡ 0 → kept_at new at ≡ Some i → ((at ≡ word) × (i ≡ insn)) ⊎ (kept_at old at ≡ Some i)

-- of the words that are kept, none is this one, and all were kept before
abbrev pub IsForgotten : List Place → List Place → ℕ → Type 0
IsForgotten old new word =
    (at : ℕ) (i : FlatInsn) → at % 4 ≡ 0 → kept_at new at ≡ Some i → (at ≢ word) × (kept_at old at ≡ Some i)

-- of the words that are kept, none has one of these bytes, and all were kept before
abbrev pub AreForgotten : List Place → List Place → ℕ → ℕ → Type 0
AreForgotten old new at width =
    (word : ℕ) (i : FlatInsn) → word % 4 ≡ 0 → kept_at new word ≡ Some i → ((word + 4 ≤ at) ⊎ (at + width ≤ word)) × (kept_at old word ≡ Some i)

-- an instruction that is kept is that of the word at its address, below the stack
pub record IsStill (ss : List Segment) (at : ℕ) (insn : FlatInsn) : Type 0 where
  pub known : IsKnown (byte_at ss) at insn
  pub low : at + 4 ≤ STACK_START

abbrev pub AreStill : List Segment → List Place → Type 0
AreStill ss places = (at : ℕ) (insn : FlatInsn) → at % 4 ≡ 0 → kept_at places at ≡ Some insn → IsStill ss at insn

-- ranges with a stack above them, and what is kept of their instructions
pub record IsMemory (ss : List Segment) (bytes : List ℕ) (places : List Place) : Type 0 where
  pub top : HasTop ss bytes
  pub still : AreStill (with_top ss bytes) places
