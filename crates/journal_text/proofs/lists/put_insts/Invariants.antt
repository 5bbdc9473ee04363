use Rattle.std.proofs.Common.{◌≡◌, ◌++◌, drop}
use Rattle.std.specs.Prelude.{codes}
use Rattle.journal_text.specs.Parts.{listed, inst_text, insts_text}
use Rattle.journal_text.proofs.lists.put_insts.Given as goal

abbrev pub invariant-loop-i : goal.invariant-loop-i
invariant-loop-i l = l.out.items ++ listed l.mark (codes ",") inst_text (drop l.i-index l.insts) ≡ l.fn.out.items ++ insts_text l.insts
