-- None has lost its home.
use Rattle.std.proofs.Common.{◌≤◌, vec_len}
use Rattle.tracker.specs.Holders.{IsLonger}
use Rattle.tracker.proofs.holders.reach.Given as goal

abbrev pub invariant-loop : goal.invariant-loop
invariant-loop l = IsLonger l.initial.homes.items l.homes.items × (l.counter ≤ vec_len l.homes)
