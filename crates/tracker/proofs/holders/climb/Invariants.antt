-- So many steps were made.
use Rattle.std.proofs.Common.{◌≡◌}
use Rattle.tracker.specs.Holders.{climbed}
use Rattle.tracker.proofs.holders.climb.Given as goal

abbrev pub invariant-loop-step : goal.invariant-loop-step
invariant-loop-step l = l.n ≡ climbed l.step l.nodes l.start
