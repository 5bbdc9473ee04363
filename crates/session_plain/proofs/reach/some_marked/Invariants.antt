use Rattle.std.proofs.Common.{◌≡◌, drop}
use Rattle.std.specs.List.{list_any}
use Rattle.session_plain.specs.Marks.{mark_at, numbers}
use Rattle.session_plain.proofs.reach.some_marked.Given as goal

abbrev pub invariant-loop-i : goal.invariant-loop-i
invariant-loop-i l = list_any (mark_at l.marks l.other) (numbers (drop l.i-index l.to)) ≡ list_any (mark_at l.marks l.other) (numbers l.to)
