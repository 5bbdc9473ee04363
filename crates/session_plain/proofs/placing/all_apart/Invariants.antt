use Rattle.std.proofs.Common.{take}
use Rattle.std.specs.List.{All}
use Rattle.session_model.specs.Answer.{Apart}
use Rattle.session_plain.proofs.placing.all_apart.Given as goal

abbrev pub invariant-loop-r : goal.invariant-loop-r
invariant-loop-r l = All (λ r. Apart r l.base l.need) (take l.r-index l.ranges)
