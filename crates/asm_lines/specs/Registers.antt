-- The names of the registers (RISC-V ELF psABI, "Integer Register Convention").
use Rattle.std.specs.Prelude.{ℕ, ◌+◌, ◌*◌, ◌-◌, ◌&&◌, not, ◌==◌, nat_lt, List, [], ◌∷◌, Option, Some, None, if◌then◌else◌, codes}
use Rattle.std.specs.Str.{bytes_eq}
use Rattle.asm_lines.specs.Words.{is_digit}

-- a number of one digit, or of two of which the first is not 0
unfoldable pub small_number : List ℕ → Option ℕ
small_number (a ∷ []) = if is_digit a then Some (a - 48) else None
small_number (a ∷ b ∷ []) = if is_digit a && is_digit b && not (a == 48) then Some ((a - 48) * 10 + (b - 48)) else None
small_number _ = None

-- the register of a bank and a number in it: x0 to x31, t0 to t6, s0 to s11, a0 to a7
abbrev pub banked : ℕ → ℕ → Option ℕ
banked bank n =
    if bank == 120 && nat_lt n 32 then Some n else
    if bank == 116 && nat_lt n 3 then Some (n + 5) else
    if bank == 116 && nat_lt n 7 then Some (n + 25) else
    if bank == 115 && nat_lt n 2 then Some (n + 8) else
    if bank == 115 && nat_lt n 12 then Some (n + 16) else
    if bank == 97 && nat_lt n 8 then Some (n + 10) else None

abbrev pub in_bank : ℕ → Option ℕ → Option ℕ
in_bank bank None = None
in_bank bank (Some n) = banked bank n

abbrev pub bank_register : List ℕ → Option ℕ
bank_register [] = None
bank_register (bank ∷ digits) = in_bank bank (small_number digits)

unfoldable pub register_of : List ℕ → Option ℕ
register_of text =
    if bytes_eq text (codes "zero") then Some 0 else
    if bytes_eq text (codes "ra") then Some 1 else
    if bytes_eq text (codes "sp") then Some 2 else
    if bytes_eq text (codes "gp") then Some 3 else
    if bytes_eq text (codes "tp") then Some 4 else
    bank_register text
