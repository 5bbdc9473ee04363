use Rattle.std.proofs.Common.{◌≡◌, ◌++◌, drop}
use Rattle.link_model.specs.Graph.{numbers_where}
use Rattle.got_stubs.specs.Marks.{part_at}
use Rattle.got_stubs.proofs.parts.list_with.Given as goal

abbrev pub invariant-loop-s : goal.invariant-loop-s
invariant-loop-s l =
    l.symbols.items ++ numbers_where (part_at l.part l.marks) l.s (drop l.s l.own) ≡ numbers_where (part_at l.part l.marks) 0 l.own
