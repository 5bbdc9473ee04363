use Rattle.std.proofs.Common.{refl}
use Rattle.orc_words.specs.Bits.{bits_at}
use Rattle.rv_insn.specs.Rows.{IsWhole}
use Rattle.rv_insn.proofs.encoding.word_of.Goals as goal

ecall_is : IsWhole 0x73 0x73 0x73
unfolding bits_at
ecall_is = record { opcode_is = refl; whole_is = refl }

ebreak_is : IsWhole 0x100073 0x73 0x100073
unfolding bits_at
ebreak_is = record { opcode_is = refl; whole_is = refl }

pub returns-in-Ecall : goal.returns-in-Ecall
returns-in-Ecall c = rw c.in-Ecall.is ecall_is

pub returns-in-Ebreak : goal.returns-in-Ebreak
returns-in-Ebreak c = rw c.in-Ebreak.is ebreak_is
