use Rattle.std.proofs.Common.{◌≡◌, ◌++◌, drop}
use Rattle.session_plain.specs.Marks.{next_marks}
use Rattle.session_plain.proofs.reach.step_marks.Given as goal

abbrev pub invariant-loop-k : goal.invariant-loop-k
invariant-loop-k l = l.next.items ++ next_marks l.marks l.other (drop l.k l.edges) (drop l.k l.firsts) ≡ next_marks l.marks l.other l.edges l.firsts
