-- The ranges below end before the address, those above begin after it.
use Rattle.std.proofs.Common.{◌-◌, ◌≤◌, length}
use Rattle.exec_run.proofs.Regions.{IsSearched}
use Rattle.exec_run.proofs.find.search.Given as goal

abbrev pub invariant-loop-low : goal.invariant-loop-low
invariant-loop-low l = record { within : l.high ≤ length l.ranges; searched : IsSearched l.ranges l.at l.low l.high }

abbrev pub decreases-loop-low : goal.decreases-loop-low
decreases-loop-low l = l.high - l.low
