use Rattle.std.proofs.Common.{◌+◌, take}
use Rattle.std.specs.List.{All}
use Rattle.session_plain.specs.Placing.{FitsNotBehind}
use Rattle.session_plain.proofs.placing.fits_nowhere.Given as goal

abbrev pub invariant-loop-r : goal.invariant-loop-r
invariant-loop-r l = All (λ r. FitsNotBehind l.ranges l.shape (r.base + r.need)) (take l.r-index l.ranges)
