use Rattle.std.proofs.Common.{◌≡◌, ◌++◌, drop}
use Rattle.std.specs.Prelude.{codes}
use Rattle.journal_text.specs.Parts.{listed, group_text, groups_text}
use Rattle.journal_text.proofs.lists.put_groups.Given as goal

abbrev pub invariant-loop-group : goal.invariant-loop-group
invariant-loop-group l = l.out.items ++ listed l.mark (codes ";") group_text (drop l.group-index l.groups) ≡ l.fn.out.items ++ groups_text l.groups
