-- The statements of instructions and pseudo-instructions: a word and its operands.
use Rattle.std.specs.Prelude.{ℕ, ◌+◌, ◌*◌, ◌^◌, Bool, true, false, nat_lt, List, [], ◌∷◌, ℤ, pos, negsuc, Option, Some, None, Result, Ok, Err, if◌then◌else◌, codes}
use Rattle.std.specs.Str.{bytes_eq}
use Rattle.orc_words.specs.Bits.{fits_bits, signed_of}
use Rattle.rv_insn.specs.declared.insn.Insn.{Insn}
use Rattle.rv_insn.specs.declared.insn.Insn.TheVariants.{Addi, Auipc, Jal, Jalr, Fence, Ecall, Ebreak}
use Rattle.rv_insn.specs.Range.{is_number}
use Rattle.asm_lines.specs.declared.statement.AsmWhy.{AsmWhy}
use Rattle.asm_lines.specs.declared.statement.AsmWhy.TheVariants as why
use Rattle.asm_lines.specs.declared.statement.Fixup.{Fixup}
use Rattle.asm_lines.specs.declared.statement.Statement.{Statement}
use Rattle.asm_lines.specs.declared.statement.Statement.TheVariants.{Code, Call}
use Rattle.asm_lines.specs.declared.values.Part.{Part}
use Rattle.asm_lines.specs.declared.values.Part.TheVariants.{Hi, PcrelHi, PcrelLo}
use Rattle.asm_lines.specs.declared.values.Reference.{Reference}
use Rattle.asm_lines.specs.declared.values.Operand.{Operand}
use Rattle.asm_lines.specs.declared.values.Operand.TheVariants.{Number, Address}
use Rattle.asm_lines.specs.Insns.{lookup, is_op, is_op_32, is_imm, is_shift, is_shift_32, is_load, is_store, is_branch, is_upper, op_insn_of, op_32_insn_of, imm_insn_of, shift_insn_of, shift_32_insn_of, load_insn_of, store_insn_of, branch_insn_of, upper_insn_of}
use Rattle.asm_lines.specs.Numbers.{number_of}
use Rattle.asm_lines.specs.Pieces.{pieces_of, taking, ending}
use Rattle.asm_lines.specs.Registers.{register_of}
use Rattle.asm_lines.specs.Statements.{needed, checked, going_on, is_short, fixup_of}
use Rattle.asm_lines.specs.Values.{low_of, high_of, based_of, label_of, either}

-- ---- forms of operands

-- three registers
unfoldable pub three_registers : List (List ℕ) → Option (ℕ × ℕ × ℕ)
three_registers pieces =
    taking register_of pieces (λ rd pieces. taking register_of pieces (λ rs1 pieces. taking register_of pieces (λ rs2 pieces. ending (rd, rs1, rs2) pieces)))

-- two registers and what f reads
unfoldable pub two_registers_and : {A : Type 0} → (List ℕ → Option A) → List (List ℕ) → Option (ℕ × ℕ × A)
two_registers_and f pieces =
    taking register_of pieces (λ r pieces. taking register_of pieces (λ s pieces. taking f pieces (λ a pieces. ending (r, s, a) pieces)))

-- a register and what f reads
unfoldable pub register_and : {A : Type 0} → (List ℕ → Option A) → List (List ℕ) → Option (ℕ × A)
register_and f pieces = taking register_of pieces (λ r pieces. taking f pieces (λ a pieces. ending (r, a) pieces))

-- ---- immediates and their relocations
-- the relocations of the parts, in the order of the standard (RISC-V ELF psABI, "Relocations")
abbrev pub low_kind : Bool → Part → ℕ
low_kind store PcrelLo = if store then 25 else 24
low_kind store part = if store then 28 else 27

abbrev pub high_kind : Part → ℕ
high_kind Hi = 26
high_kind PcrelHi = 23
high_kind part = 20

abbrev pub low_number : ℤ → Result ℤ AsmWhy
low_number n = checked (fits_bits 12 n) why.Number (Ok n)

-- twenty bits, above twelve zero bits
abbrev pub high_number : ℤ → Result ℤ AsmWhy
high_number (negsuc n) = Err why.Number
high_number (pos n) = checked (nat_lt n (2 ^ 20)) why.Number (Ok (signed_of 32 (n * 4096)))

-- a number in its place, or 0 and the relocation that writes it
unfoldable pub low_value : Bool → Operand → Result (ℤ × Option Fixup) AsmWhy
low_value store (Number n) = going_on (low_number n) (λ imm. Ok (imm, None))
low_value store (Address part reference) = going_on (fixup_of (low_kind store part) reference) (λ fixup. Ok (pos 0, Some fixup))

unfoldable pub high_value : Operand → Result (ℤ × Option Fixup) AsmWhy
high_value (Number n) = going_on (high_number n) (λ imm. Ok (imm, None))
high_value (Address part reference) = going_on (fixup_of (high_kind part) reference) (λ fixup. Ok (pos 0, Some fixup))

-- the statement of an instruction and its relocation
abbrev pub worded : Option Insn → Option Fixup → Result Statement AsmWhy
worded None fixup = Err why.Word
worded (Some insn) fixup = Ok (Code insn fixup)

-- ---- the statement of each form, by what makes its instruction

unfoldable pub three_registers_statement : (ℕ → ℕ → ℕ → Option Insn) → List ℕ → Result Statement AsmWhy
three_registers_statement make text = needed (three_registers (pieces_of text)) (λ p. worded (make p.0 p.1 p.2) None)

unfoldable pub immediate_statement : (ℕ → ℕ → ℤ → Option Insn) → List ℕ → Result Statement AsmWhy
immediate_statement make text =
    needed (two_registers_and low_of (pieces_of text)) (λ p. going_on (low_value false p.2) (λ v. worded (make p.0 p.1 v.0) v.1))

abbrev pub amount_number : ℕ → ℤ → Result ℤ AsmWhy
amount_number bits amount = checked (is_number bits amount) why.Number (Ok amount)

unfoldable pub shift_statement : ℕ → (ℕ → ℕ → ℤ → Option Insn) → List ℕ → Result Statement AsmWhy
shift_statement bits make text =
    needed (two_registers_and number_of (pieces_of text)) (λ p. going_on (amount_number bits p.2) (λ amount. worded (make p.0 p.1 amount) None))

unfoldable pub load_statement : (ℕ → ℕ → ℤ → Option Insn) → List ℕ → Result Statement AsmWhy
load_statement make text =
    needed (register_and based_of (pieces_of text)) (λ p. going_on (low_value false p.1.0) (λ v. worded (make p.0 p.1.1 v.0) v.1))

-- the stored register stands first, and its base in the parentheses
unfoldable pub store_statement : (ℕ → ℕ → ℤ → Option Insn) → List ℕ → Result Statement AsmWhy
store_statement make text =
    needed (register_and based_of (pieces_of text)) (λ p. going_on (low_value true p.1.0) (λ v. worded (make p.1.1 p.0 v.0) v.1))

-- the distance of a branch is its relocation's to write
unfoldable pub branch_statement : (ℕ → ℕ → ℤ → Option Insn) → List ℕ → Result Statement AsmWhy
branch_statement make text =
    needed (two_registers_and label_of (pieces_of text)) (λ p. going_on (fixup_of 16 p.2) (λ fixup. worded (make p.0 p.1 (pos 0)) (Some fixup)))

unfoldable pub upper_statement : (ℕ → ℤ → Option Insn) → List ℕ → Result Statement AsmWhy
upper_statement make text =
    needed (register_and high_of (pieces_of text)) (λ p. going_on (high_value p.1) (λ v. worded (make p.0 v.0) v.1))

unfoldable pub jal_statement : List ℕ → Result Statement AsmWhy
jal_statement text =
    needed (register_and label_of (pieces_of text)) (λ p. going_on (fixup_of 17 p.1) (λ fixup. Ok (Code (Jal p.0 (pos 0)) (Some fixup))))

abbrev pub turned : Option (ℕ × (Operand × ℕ)) → Option (ℕ × ℕ × Operand)
turned None = None
turned (Some p) = Some (p.0, p.1.1, p.1.0)

-- rd, N(rs1) or rd, rs1, N
unfoldable pub jalr_operands : List (List ℕ) → Option (ℕ × ℕ × Operand)
jalr_operands pieces = either (turned (register_and based_of pieces)) (two_registers_and low_of pieces)

unfoldable pub jalr_statement : List ℕ → Result Statement AsmWhy
jalr_statement text = needed (jalr_operands (pieces_of text)) (λ p. going_on (low_value false p.2) (λ v. Ok (Code (Jalr p.0 p.1 v.0) v.1)))

-- ---- fences
-- the sets of `i`, `o`, `r` and `w`, in this order (RISC-V unprivileged manual, "FENCE")
abbrev pub fence_sets : List (List ℕ × ℕ)
fence_sets =
    (codes "w", 1)
    ∷ (codes "r", 2)
    ∷ (codes "rw", 3)
    ∷ (codes "o", 4)
    ∷ (codes "ow", 5)
    ∷ (codes "or", 6)
    ∷ (codes "orw", 7)
    ∷ (codes "i", 8)
    ∷ (codes "iw", 9)
    ∷ (codes "ir", 10)
    ∷ (codes "irw", 11)
    ∷ (codes "io", 12)
    ∷ (codes "iow", 13)
    ∷ (codes "ior", 14)
    ∷ (codes "iorw", 15)
    ∷ []

unfoldable pub set_of : List ℕ → Option ℕ
set_of text = lookup text fence_sets

-- a fence of all for all where there are no operands
unfoldable pub fence_operands : List (List ℕ) → Option (ℕ × ℕ)
fence_operands [] = Some (15, 15)
fence_operands (piece ∷ pieces) = taking set_of (piece ∷ pieces) (λ before pieces. taking set_of pieces (λ after pieces. ending (before, after) pieces))

unfoldable pub fence_statement : List ℕ → Result Statement AsmWhy
fence_statement text = needed (fence_operands (pieces_of text)) (λ p. Ok (Code (Fence (p.0 * 0x1000000 + p.1 * 0x100000 + 15)) None))

-- ---- words without operands, and pseudo-instructions

abbrev pub bare_insns : List (List ℕ × Insn)
bare_insns =
    (codes "ecall", Ecall)
    ∷ (codes "ebreak", Ebreak)
    ∷ (codes "nop", Addi 0 0 (pos 0))
    ∷ (codes "ret", Jalr 0 1 (pos 0))
    ∷ []

unfoldable pub bare_insn : List ℕ → Option Insn
bare_insn word = lookup word bare_insns

abbrev pub needed_word : {A B : Type 0} → Option A → (A → Result B AsmWhy) → Result B AsmWhy
needed_word None next = Err why.Word
needed_word (Some a) next = next a

unfoldable pub bare_statement : List ℕ → List ℕ → Result Statement AsmWhy
bare_statement word text = needed_word (bare_insn word) (λ insn. needed (ending insn (pieces_of text)) (λ insn. Ok (Code insn None)))

unfoldable pub two_registers : List (List ℕ) → Option (ℕ × ℕ)
two_registers pieces = taking register_of pieces (λ rd pieces. taking register_of pieces (λ rs pieces. ending (rd, rs) pieces))

unfoldable pub mv_statement : List ℕ → Result Statement AsmWhy
mv_statement text = needed (two_registers (pieces_of text)) (λ p. Ok (Code (Addi p.0 p.1 (pos 0)) None))

unfoldable pub one_label : List (List ℕ) → Option Reference
one_label pieces = taking label_of pieces (λ label pieces. ending label pieces)

unfoldable pub j_statement : List ℕ → Result Statement AsmWhy
j_statement text = needed (one_label (pieces_of text)) (λ label. going_on (fixup_of 17 label) (λ fixup. Ok (Code (Jal 0 (pos 0)) (Some fixup))))

-- `call` links in ra, `tail` goes by way of t1 and links nowhere
unfoldable pub call_statement : ℕ → ℕ → List ℕ → Result Statement AsmWhy
call_statement way link text =
    needed (one_label (pieces_of text)) (λ label. checked (is_short label.symbol) why.Name (Ok (Call (Auipc way (pos 0)) (Jalr link way (pos 0)) label.symbol)))

-- ---- all words

unfoldable pub pseudo_statement : List ℕ → List ℕ → Result Statement AsmWhy
pseudo_statement word text =
    if bytes_eq word (codes "jal") then jal_statement text else
    if bytes_eq word (codes "jalr") then jalr_statement text else
    if bytes_eq word (codes "fence") then fence_statement text else
    if bytes_eq word (codes "mv") then mv_statement text else
    if bytes_eq word (codes "j") then j_statement text else
    if bytes_eq word (codes "call") then call_statement 1 1 text else
    if bytes_eq word (codes "tail") then call_statement 6 0 text else
    bare_statement word text

-- an instruction or a pseudo-instruction
unfoldable pub instruction_of : List ℕ → List ℕ → Result Statement AsmWhy
instruction_of word text =
    if is_op word then three_registers_statement (op_insn_of word) text else
    if is_op_32 word then three_registers_statement (op_32_insn_of word) text else
    if is_imm word then immediate_statement (imm_insn_of word) text else
    if is_shift word then shift_statement 6 (shift_insn_of word) text else
    if is_shift_32 word then shift_statement 5 (shift_32_insn_of word) text else
    if is_load word then load_statement (load_insn_of word) text else
    if is_store word then store_statement (store_insn_of word) text else
    if is_branch word then branch_statement (branch_insn_of word) text else
    if is_upper word then upper_statement (upper_insn_of word) text else
    pseudo_statement word text
