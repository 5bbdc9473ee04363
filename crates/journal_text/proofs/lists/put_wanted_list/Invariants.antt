use Rattle.std.proofs.Common.{◌≡◌, ◌++◌, drop}
use Rattle.std.specs.Prelude.{codes}
use Rattle.journal_text.specs.Parts.{listed, wanted_text, wanted_list_text}
use Rattle.journal_text.proofs.lists.put_wanted_list.Given as goal

abbrev pub invariant-loop-w : goal.invariant-loop-w
invariant-loop-w l = l.out.items ++ listed (codes " ") (codes " ") (wanted_text l.names) (drop l.w-index l.wanted) ≡ l.fn.out.items ++ (wanted_list_text l.names) l.wanted
