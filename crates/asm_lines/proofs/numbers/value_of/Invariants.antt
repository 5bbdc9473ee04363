use Rattle.std.proofs.Common.{◌≡◌, ◌≤◌, min, drop}
use Rattle.asm_lines.specs.Numbers.{value_from, largest, value_of}
use Rattle.asm_lines.proofs.numbers.value_of.Given as goal

-- going on from here gives the whole
abbrev pub invariant-loop-byte : goal.invariant-loop-byte
invariant-loop-byte l = (l.value ≤ largest) × (min (value_from l.base l.value (drop l.byte-index l.digits)) largest ≡ value_of l.base l.digits)
