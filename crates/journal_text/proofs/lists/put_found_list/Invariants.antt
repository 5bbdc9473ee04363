use Rattle.std.proofs.Common.{◌≡◌, ◌++◌, drop}
use Rattle.std.specs.Prelude.{codes}
use Rattle.journal_text.specs.Parts.{listed, found_text, found_list_text}
use Rattle.journal_text.proofs.lists.put_found_list.Given as goal

abbrev pub invariant-loop-found : goal.invariant-loop-found
invariant-loop-found l = l.out.items ++ listed l.mark (codes ",") found_text (drop l.found-index l.matches) ≡ l.fn.out.items ++ found_list_text l.matches
