use Rattle.std.proofs.Common.{◌≡◌, ◌++◌, drop}
use Rattle.std.specs.Prelude.{codes}
use Rattle.journal_text.specs.Parts.{listed, item_text, items_text}
use Rattle.journal_text.proofs.lists.put_items.Given as goal

abbrev pub invariant-loop-item : goal.invariant-loop-item
invariant-loop-item l = l.out.items ++ listed l.mark (codes ",") item_text (drop l.item-index l.items) ≡ l.fn.out.items ++ items_text l.items
