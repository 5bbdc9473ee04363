use Rattle.elf_read.proofs.Apart.{AreApart}
use Rattle.elf_read.proofs.spans.follow_one_another.Given as goal

abbrev pub invariant-loop-span : goal.invariant-loop-span
invariant-loop-span l = AreApart l.spans l.span-index l.end
