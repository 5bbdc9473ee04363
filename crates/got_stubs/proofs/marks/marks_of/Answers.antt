use Rattle.std.proofs.Common.{rules}
use Rattle.got_stubs.proofs.Steps.{fresh_marks, targets_there}
use Rattle.got_stubs.proofs.marks.marks_of.Goals as goal

pub mark_all-requires-clause-none : goal.mark_all-requires-clause-none
mark_all-requires-clause-none c = fresh_marks c.as_mut_slice.result.now c.resize.new.self.items c.new-marks.result.items _ _ c.as_mut_slice.ensures.value c.in_ok-resize.ensures.items c.new-marks.ensures.items

pub mark_all-requires-clause-there : goal.mark_all-requires-clause-there
mark_all-requires-clause-there c = targets_there c.args.g.now _ _ c.requires c.as_slice.ensures (search rules)
