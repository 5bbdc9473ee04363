-- The parts of a fence's word.
use Rattle.std.proofs.Common.{◌≡◌, ℕ, ◌+◌, ◌*◌, ◌/◌, ◌%◌, arith}
use Rattle.orc_words.specs.Bits.{bits_at}
use Rattle.rv_insn.specs.Range.{RangeFence}

opcode : (b a : ℕ) → (b * 0x1000000 + a * 0x100000 + 15) / 1 % 128 ≡ 15
opcode b a = omega arith

f3 : (b a : ℕ) → (b * 0x1000000 + a * 0x100000 + 15) / 4096 % 8 ≡ 0
f3 b a = omega arith

pub fence_in_range : (b a : ℕ) → RangeFence (b * 0x1000000 + a * 0x100000 + 15) 0x0F 0
unfolding bits_at
fence_in_range b a = record { opcode_in = opcode b a; f3_in = f3 b a }
