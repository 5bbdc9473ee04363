use Rattle.std.proofs.Common.{◌≡◌, ◌-◌, ◌++◌}
use Rattle.elf_write.specs.Bytes.{number_bytes}
use Rattle.elf_write.proofs.numbers.put_number.Given as goal

-- what is written and what is left make the whole
abbrev pub invariant-loop-k : goal.invariant-loop-k
invariant-loop-k l = l.out.items ++ number_bytes (l.width - l.k) l.rest ≡ l.fn.out.items ++ number_bytes l.width l.n
