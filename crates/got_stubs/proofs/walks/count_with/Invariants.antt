use Rattle.std.proofs.Common.{◌≡◌, ◌≤◌, ◌+◌, length, drop}
use Rattle.link_model.specs.Graph.{own_symbols, numbers_where}
use Rattle.got_stubs.specs.Marks.{part_at, symbols_with}
use Rattle.got_stubs.proofs.walks.count_with.Given as goal

abbrev pub invariant-loop-s : goal.invariant-loop-s
invariant-loop-s l =
    (l.offer ≤ l.s) × (l.count ≤ l.s)
    × (l.count + length (numbers_where (part_at l.part l.marks) l.s (own_symbols (drop l.s l.symbols) (drop l.offer l.live))) ≡ length (symbols_with l.part l.marks l.symbols l.live))
