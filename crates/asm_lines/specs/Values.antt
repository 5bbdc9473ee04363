-- The operands that stand for a value: a number, a symbol with a number added, a part of an address.
use Rattle.std.specs.Prelude.{ℕ, ◌+◌, ◌-◌, Bool, true, false, ◌&&◌, not, ◌==◌, nat_le, List, [], ◌∷◌, length, take, drop, slice_index, ℤ, pos, negsuc, zero, suc, Option, Some, None, option_and_then, if◌then◌else◌, codes}
use Rattle.std.specs.List.{position_or_len}
use Rattle.std.specs.Str.{bytes_eq}
use Rattle.asm_lines.specs.declared.values.Part.{Part}
use Rattle.asm_lines.specs.declared.values.Part.TheVariants.{Hi, Lo, PcrelHi, PcrelLo, GotPcrelHi}
use Rattle.asm_lines.specs.declared.values.Reference.{Reference}
use Rattle.asm_lines.specs.declared.values.Operand.{Operand}
use Rattle.asm_lines.specs.declared.values.Operand.TheVariants.{Number, Address}
use Rattle.asm_lines.specs.Numbers.{number_of}
use Rattle.asm_lines.specs.Registers.{register_of}
use Rattle.asm_lines.specs.Words.{is_symbol, before_blanks, after_blanks, trimmed}

abbrev pub opposite : ℤ → ℤ
opposite (pos zero) = pos zero
opposite (pos (suc n)) = negsuc n
opposite (negsuc n) = pos (suc n)

abbrev pub opposite_of : Option ℤ → Option ℤ
opposite_of None = None
opposite_of (Some n) = Some (opposite n)

abbrev pub referring : List ℕ → Option ℤ → Option Reference
referring symbol None = None
referring symbol (Some addend) = Some (record { symbol = symbol; addend = addend })

-- how many bytes stand before a sign
abbrev pub sign_at : ℕ → List ℕ → ℕ
sign_at sign text = position_or_len (λ b. b == sign) text

-- S+N
unfoldable pub sum_of : List ℕ → Option Reference
sum_of text = let n = sign_at 43 text in
    if is_symbol (take n text) then referring (take n text) (number_of (drop (n + 1) text)) else None

-- S-N
unfoldable pub difference_of : List ℕ → Option Reference
difference_of text = let n = sign_at 45 text in
    if is_symbol (take n text) then referring (take n text) (opposite_of (number_of (drop (n + 1) text))) else None

-- a symbol alone
abbrev pub label_of : List ℕ → Option Reference
label_of text = if is_symbol text then Some (record { symbol = text; addend = pos 0 }) else None

-- the first of two that is there
abbrev pub either : {A : Type 0} → Option A → Option A → Option A
either (Some a) next = Some a
either None next = next

-- S or S+N
unfoldable pub reference_of : List ℕ → Option Reference
reference_of text = either (label_of text) (sum_of text)

-- what stands between a pair of parentheses that are the first and the last byte
unfoldable pub enclosed : List ℕ → Option (List ℕ)
enclosed text =
    if nat_le 2 (length text) && slice_index text 0 == 40 && slice_index text (length text - 1) == 41
    then Some (trimmed (take (length text - 2) (drop 1 text))) else None

unfoldable pub part_named : List ℕ → Option Part
part_named name =
    if bytes_eq name (codes "hi") then Some Hi else
    if bytes_eq name (codes "lo") then Some Lo else
    if bytes_eq name (codes "pcrel_hi") then Some PcrelHi else
    if bytes_eq name (codes "pcrel_lo") then Some PcrelLo else
    if bytes_eq name (codes "got_pcrel_hi") then Some GotPcrelHi else None

abbrev pub addressed : Part → Option Reference → Option Operand
addressed part None = None
addressed part (Some reference) = Some (Address part reference)

-- %pcrel_lo takes a label, the others S or S+N
abbrev pub part_reference : Part → List ℕ → Option Reference
part_reference PcrelLo inner = label_of inner
part_reference part inner = reference_of inner

-- NAME(S+N), as it stands after the percent sign
unfoldable pub part_of : List ℕ → Option Operand
part_of text = let n = position_or_len (λ b. b == 40) text in
    option_and_then (λ part. option_and_then (λ inner. addressed part (part_reference part inner)) (enclosed (drop n text))) (part_named (before_blanks (take n text)))

abbrev pub numbered : Option ℤ → Option Operand
numbered None = None
numbered (Some n) = Some (Number n)

-- a number or a part of an address
unfoldable pub operand_of : List ℕ → Option Operand
operand_of [] = None
operand_of (b ∷ bs) = if b == 37 then part_of bs else numbered (number_of (b ∷ bs))

abbrev pub is_low : Part → Bool
is_low Lo = true
is_low PcrelLo = true
is_low _ = false

abbrev pub only : (Part → Bool) → Operand → Option Operand
only allowed (Number n) = Some (Number n)
only allowed (Address part reference) = if allowed part then Some (Address part reference) else None

-- what a place of twelve bits takes, and one of an upper part
unfoldable pub low_of : List ℕ → Option Operand
low_of text = option_and_then (only is_low) (operand_of text)

unfoldable pub high_of : List ℕ → Option Operand
high_of text = option_and_then (only (λ part. not (is_low part))) (operand_of text)

-- how many bytes stand before the parenthesis of the register
abbrev pub base_at : List ℕ → ℕ
base_at [] = 0
base_at (b ∷ bs) = if b == 37 then position_or_len (λ b. b == 41) (b ∷ bs) + 1 else position_or_len (λ b. b == 40) (b ∷ bs)

-- N(register): a low part and a base
unfoldable pub based_of : List ℕ → Option (Operand × ℕ)
based_of text = let n = base_at text in
    option_and_then (λ low. option_and_then (λ inner. option_and_then (λ base. Some (low, base)) (register_of inner)) (enclosed (after_blanks (drop n text))))
    (low_of (before_blanks (take n text)))
