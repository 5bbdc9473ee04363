-- A word made of its parts has them.
use Rattle.std.proofs.Common.{ℕ, ◌+◌, ◌*◌, ◌^◌, ◌<◌, arith}
use Rattle.orc_words.specs.Bits.{bits_at}
use Rattle.rv_insn.specs.Parts.{HasParts}

pub parts : (opcode rd f3 rs1 rs2 f7 : ℕ) → opcode < 2 ^ 7 → rd < 2 ^ 5 → f3 < 2 ^ 3 → rs1 < 2 ^ 5 → rs2 < 2 ^ 5 → f7 < 2 ^ 7 → HasParts (opcode + rd * 128 + f3 * 4096 + rs1 * 32768 + rs2 * 1048576 + f7 * 33554432) opcode rd f3 rs1 rs2 f7
unfolding bits_at
parts opcode rd f3 rs1 rs2 f7 a b c d e f =
    record { opcode_is = omega arith; rd_is = omega arith; f3_is = omega arith; rs1_is = omega arith; rs2_is = omega arith; f7_is = omega arith }
