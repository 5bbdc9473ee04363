-- The relocation kinds (RISC-V ELF psABI, "Relocations"): what each computes, which values it takes,
-- and what it writes. S is the symbol's address, A the addend, P the address of the patched place.
use Rattle.std.specs.Prelude.{◌≡◌, ℕ, ◌+◌, ◌*◌, ◌^◌, ◌<◌, ◌≤◌, ◌==◌, nat_lt, Bool, true, ◌&&◌, if◌then◌else◌, ℤ, pos, negsuc, ◌+ℤ◌, ◌-ℤ◌, List, [], ◌∷◌, Option, Some, None, ⊤, ◌⊎◌}
use Rattle.orc_words.specs.Bits.{bits_at, with_bits, signed_of, low_of, fits_bits}
use Rattle.orc_words.specs.Immediates.{i_immediate, s_immediate, b_immediate, u_bits, j_immediate, with_i, with_s, with_b, with_u, with_j, OutsideI, OutsideS, OutsideB, OutsideU, OutsideJ}
use Rattle.orc_words.specs.Numbers.{number_at, with_number}
use Rattle.link_model.specs.declared.kinds.Formula.{Formula}
use Rattle.link_model.specs.declared.kinds.Formula.TheVariants.{Zero, Absolute, Relative, Paired}
use Rattle.link_model.specs.declared.kinds.Span.{Span}
use Rattle.link_model.specs.declared.kinds.Span.TheVariants.{Any, Word, SignedWord, Branch, Jump, Split}
use Rattle.link_model.specs.declared.kinds.Form.{Form}
use Rattle.link_model.specs.declared.kinds.Form.TheVariants.{Unwritten, Number, Sum, Difference, LowSix, LowSixDifference, FormatB, FormatJ, FormatU, FormatI, FormatS, Call}
use Rattle.link_model.specs.declared.kinds.Rule.{Rule}

-- ---- the table
abbrev row : ℕ → Formula → Span → Form → ℕ → ℕ × Rule
row kind formula span form width = (kind, record { formula = formula; span = span; form = form; width = width })

-- the kinds in the order of the standard, each with its number, its value's formula, the range of its
-- values, what is written, and the number of bytes
abbrev pub rows : List (ℕ × Rule)
rows =
    row 0 Zero Any Unwritten 0  -- NONE
    ∷ row 1 Absolute Word Number 4  -- 32: S + A
    ∷ row 2 Absolute Any Number 8  -- 64: S + A
    ∷ row 16 Relative Branch FormatB 4  -- BRANCH: S + A - P
    ∷ row 17 Relative Jump FormatJ 4  -- JAL: S + A - P
    ∷ row 18 Relative Split Call 8  -- CALL: S + A - P
    ∷ row 19 Relative Split Call 8  -- CALL_PLT: S + A - P
    ∷ row 20 Relative Split FormatU 4  -- GOT_HI20: G + A - P, G the symbol's cell
    ∷ row 23 Relative Split FormatU 4  -- PCREL_HI20: S + A - P
    ∷ row 24 Paired Any FormatI 4  -- PCREL_LO12_I: the value of the HI20 edge at S
    ∷ row 25 Paired Any FormatS 4  -- PCREL_LO12_S: the value of the HI20 edge at S
    ∷ row 26 Absolute Split FormatU 4  -- HI20: S + A
    ∷ row 27 Absolute Any FormatI 4  -- LO12_I: S + A
    ∷ row 28 Absolute Any FormatS 4  -- LO12_S: S + A
    ∷ row 33 Absolute Any Sum 1  -- ADD8: V + S + A, V what stands there
    ∷ row 34 Absolute Any Sum 2  -- ADD16: V + S + A
    ∷ row 35 Absolute Any Sum 4  -- ADD32: V + S + A
    ∷ row 36 Absolute Any Sum 8  -- ADD64: V + S + A
    ∷ row 37 Absolute Any Difference 1  -- SUB8: V - S - A
    ∷ row 38 Absolute Any Difference 2  -- SUB16: V - S - A
    ∷ row 39 Absolute Any Difference 4  -- SUB32: V - S - A
    ∷ row 40 Absolute Any Difference 8  -- SUB64: V - S - A
    ∷ row 43 Zero Any Unwritten 0  -- ALIGN
    ∷ row 51 Zero Any Unwritten 0  -- RELAX
    ∷ row 52 Absolute Any LowSixDifference 1  -- SUB6: V - S - A
    ∷ row 53 Absolute Any LowSix 1  -- SET6: S + A
    ∷ row 54 Absolute Any Number 1  -- SET8: S + A
    ∷ row 55 Absolute Any Number 2  -- SET16: S + A
    ∷ row 56 Absolute Any Number 4  -- SET32: S + A
    ∷ row 57 Relative SignedWord Number 4  -- 32_PCREL: S + A - P
    ∷ row 59 Relative SignedWord Number 4  -- PLT32: S + A - P
    ∷ []

-- the row of a kind, if it has one
abbrev pub find_row : ℕ → List (ℕ × Rule) → Option Rule
find_row kind [] = None
find_row kind (row ∷ rest) = if kind == row.0 then Some row.1 else find_row kind rest

unfoldable pub row_of : ℕ → Option Rule
row_of kind = find_row kind rows

-- the rule of a kind; a number that is no kind has the rule of NONE
abbrev pub known : Option Rule → Rule
known (Some rule) = rule
known None = record { formula = Zero; span = Any; form = Unwritten; width = 0 }

abbrev pub rule_of : ℕ → Rule
rule_of kind = known (row_of kind)

-- ---- the values
-- an integer modulo 2 ^ 64, as a signed number
unfoldable pub wrapped : ℤ → ℤ
wrapped z = signed_of 64 (low_of 64 z)

abbrev pub value_of : Formula → ℕ → ℤ → ℕ → ℤ
value_of Zero s a p = pos 0
value_of Absolute s a p = wrapped (pos s +ℤ a)
value_of Relative s a p = wrapped (pos s +ℤ a -ℤ pos p)
value_of Paired s a p = pos 0

-- the values that a 32-bit word holds as a signed or as an unsigned number
abbrev pub fits_word : ℤ → Bool
fits_word (pos k) = nat_lt k (2 ^ 32)
fits_word (negsuc k) = nat_lt k (2 ^ 31)

abbrev pub in_span : Span → ℤ → Bool
in_span Any v = true
in_span Word v = fits_word v
in_span SignedWord v = fits_bits 32 v
in_span Branch v = fits_bits 13 v && (low_of 1 v == 0)
in_span Jump v = fits_bits 21 v && (low_of 1 v == 0)
in_span Split v = fits_bits 32 (v +ℤ pos 0x800)

-- ---- the writes
-- the upper part of a value, rounded so that the signed low twelve bits complete it: (v + 0x800) >> 12
unfoldable pub up_of : ℤ → ℕ
up_of v = bits_at 12 20 (low_of 32 (v +ℤ pos 0x800))

-- the low twelve bits of a value, signed
abbrev pub low_part : ℤ → ℤ
low_part v = signed_of 12 (low_of 12 v)

-- a number of so many bits after a value was written to it
abbrev pub new_number : Form → ℕ → ℕ → ℤ → ℕ
new_number Unwritten bits old v = old
new_number Number bits old v = low_of bits v
new_number Sum bits old v = low_of bits (pos old +ℤ v)
new_number Difference bits old v = low_of bits (pos old -ℤ v)
new_number LowSix bits old v = with_bits 0 6 old (low_of 6 v)
new_number LowSixDifference bits old v = with_bits 0 6 old (low_of 6 (pos old -ℤ v))
new_number FormatB bits old v = with_b old (low_of 13 v)
new_number FormatJ bits old v = with_j old (low_of 21 v)
new_number FormatU bits old v = with_u old (up_of v)
new_number FormatI bits old v = with_i old (low_of 12 v)
new_number FormatS bits old v = with_s old (low_of 12 v)
new_number Call bits old v = with_u (bits_at 0 32 old) (up_of v) + with_i (bits_at 32 32 old) (low_of 12 v) * 2 ^ 32

-- the number at a place after a write of a rule, and the bytes after it
abbrev pub edited_number : Rule → (ℕ → ℕ) → ℕ → ℤ → ℕ
edited_number rule bytes at v = new_number rule.form (8 * rule.width) (number_at rule.width bytes at) v

unfoldable pub edited : Rule → ℕ → ℤ → (ℕ → ℕ) → ℕ → ℕ
edited rule at v bytes = with_number rule.width at (edited_number rule bytes at v) bytes

-- ---- the law of the formats
-- what is read back of the number that was written
abbrev pub ReadsBack : Form → ℕ → ℤ → Type 0
ReadsBack FormatB new v = b_immediate new ≡ v
ReadsBack FormatJ new v = j_immediate new ≡ v
ReadsBack FormatU new v = u_bits new ≡ up_of v
ReadsBack FormatI new v = i_immediate new ≡ low_part v
ReadsBack FormatS new v = s_immediate new ≡ low_part v
ReadsBack Call new v = (u_bits (bits_at 0 32 new) ≡ up_of v) × (i_immediate (bits_at 32 32 new) ≡ low_part v)
ReadsBack _ new v = ⊤

-- the bits that a form leaves as they were
abbrev pub Outside : Form → ℕ → Type 0
Outside Unwritten i = ⊤
Outside LowSix i = 6 ≤ i
Outside LowSixDifference i = 6 ≤ i
Outside FormatB i = OutsideB i
Outside FormatJ i = OutsideJ i
Outside FormatU i = OutsideU i
Outside FormatI i = OutsideI i
Outside FormatS i = OutsideS i
Outside Call i = (i < 12) ⊎ ((32 ≤ i) × (i < 52)) ⊎ (64 ≤ i)
Outside _ i = ⊥
