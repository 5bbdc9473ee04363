use Rattle.std.proofs.Common.{◌≡◌, length, take}
use Rattle.got_stubs.specs.Marks.{AreMarks}
use Rattle.got_stubs.proofs.marks.mark_all.Given as goal

abbrev pub invariant-loop-e : goal.invariant-loop-e
invariant-loop-e l = (length l.marks ≡ length l.initial.marks) × AreMarks (take l.e-index l.edges) l.marks
