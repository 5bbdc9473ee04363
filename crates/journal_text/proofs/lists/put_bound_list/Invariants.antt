use Rattle.std.proofs.Common.{◌≡◌, ◌++◌, drop}
use Rattle.std.specs.Prelude.{codes}
use Rattle.journal_text.specs.Parts.{listed, bound_text, bound_list_text}
use Rattle.journal_text.proofs.lists.put_bound_list.Given as goal

abbrev pub invariant-loop-bound : goal.invariant-loop-bound
invariant-loop-bound l = l.out.items ++ listed l.mark (codes ",") bound_text (drop l.bound-index l.matches) ≡ l.fn.out.items ++ bound_list_text l.matches
