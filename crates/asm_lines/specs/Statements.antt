-- What a statement is made of, and the places that its numbers and names must fit.
use Rattle.std.specs.Prelude.{◌≡◌, ℕ, ◌+◌, ◌-◌, ◌^◌, Bool, true, false, ◌||◌, ◌==◌, nat_le, nat_lt, List, length, ℤ, pos, negsuc, Option, Some, None, Result, Ok, Err}
use Rattle.orc_words.specs.Bits.{fits_bits}
use Rattle.rv_insn.specs.Range.{InRange}
use Rattle.asm_lines.specs.declared.statement.AsmWhy.{AsmWhy}
use Rattle.asm_lines.specs.declared.statement.AsmWhy.TheVariants as why
use Rattle.asm_lines.specs.declared.statement.LineError.{LineError}
use Rattle.asm_lines.specs.declared.statement.LineError.TheVariants.{Bad, NoMemory}
use Rattle.asm_lines.specs.declared.statement.Fixup.{Fixup}
use Rattle.asm_lines.specs.declared.statement.Statement.{Statement}
use Rattle.asm_lines.specs.declared.statement.Statement.TheVariants.{Code, Call}
use Rattle.asm_lines.specs.declared.values.Reference.{Reference}

-- ---- refusals

-- the operands, if they have the form
abbrev pub needed : {A B : Type 0} → Option A → (A → Result B AsmWhy) → Result B AsmWhy
needed None next = Err why.Operands
needed (Some a) next = next a

-- what goes on where the test holds
abbrev pub checked : {B : Type 0} → Bool → AsmWhy → Result B AsmWhy → Result B AsmWhy
checked true because next = next
checked false because next = Err because

-- what goes on with a value
abbrev pub going_on : {A B : Type 0} → Result A AsmWhy → (A → Result B AsmWhy) → Result B AsmWhy
going_on (Err because) next = Err because
going_on (Ok a) next = next a

-- what a reader that needs memory answers
abbrev pub Answers : {A : Type 0} → Result A AsmWhy → Result A LineError → Type 0
Answers want (Ok a) = want ≡ Ok a
Answers want (Err (Bad because)) = want ≡ Err because
Answers want (Err NoMemory) = Unit {0}

-- what a reader of operands that needs memory answers
abbrev pub Reads : {A : Type 0} → Option A → Result A LineError → Type 0
Reads want (Ok a) = want ≡ Some a
Reads want (Err (Bad because)) = (want ≡ None) × (because ≡ why.Operands)
Reads want (Err NoMemory) = Unit {0}

-- ---- places

-- a symbol of at most 4,096 bytes
abbrev pub is_short : List ℕ → Bool
is_short symbol = nat_le (length symbol) 4096

-- an integer from 0 up to a limit
abbrev pub is_up_to : ℕ → ℤ → Bool
is_up_to limit (pos n) = nat_le n limit
is_up_to limit (negsuc n) = false

-- what so many bits hold, read as a signed or as an unsigned number
abbrev pub fits_either : ℕ → ℤ → Bool
fits_either bits (pos n) = nat_lt n (2 ^ bits)
fits_either bits (negsuc n) = nat_lt n (2 ^ (bits - 1))

abbrev pub magnitude : ℤ → ℕ
magnitude (pos n) = n
magnitude (negsuc n) = n + 1

-- a power of two up to 4,096
abbrev pub is_alignment : ℤ → Bool
is_alignment (negsuc n) = false
is_alignment (pos n) =
    n == 1 || n == 2 || n == 4 || n == 8 || n == 16 || n == 32 || n == 64 || n == 128 || n == 256 || n == 512 || n == 1024 || n == 2048 || n == 4096

-- ---- relocations

-- a relocation against a symbol: the addend has 64 bits, the symbol at most 4,096 bytes
abbrev pub fixup_of : ℕ → Reference → Result Fixup AsmWhy
fixup_of kind r =
    checked (fits_bits 64 r.addend) why.Number (checked (is_short r.symbol) why.Name (Ok (record { kind = kind; symbol = r.symbol; addend = r.addend })))

-- ---- instructions

-- a word can hold the instructions of a statement
abbrev pub Encodable : Statement → Type 0
Encodable (Code insn fixup) = InRange insn
Encodable (Call first second symbol) = InRange first × InRange second
Encodable _ = Unit {0}
