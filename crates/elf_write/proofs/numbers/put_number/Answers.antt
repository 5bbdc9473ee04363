use Rattle.std.proofs.Common.{arith}
use Rattle.elf_write.proofs.Steps.{next_byte, all_bytes}
use Rattle.elf_write.proofs.numbers.put_number.Goals as goal

pub loop-k-preserved : goal.loop-k-preserved
loop-k-preserved c =
    next_byte c.loop-k.out.items _ _ _ _ c.loop-k.rest (omega arith) c.loop-k.invariant c.in_ok-push.ensures.items

pub returns : goal.returns
returns c = all_bytes c.loop-k.out.items _ _ c.loop-k.rest (omega arith) c.loop-k.invariant
