-- How many so far, and of those that are left.
use Rattle.std.proofs.Common.{◌≡◌, ◌+◌, ◌≤◌, drop}
use Rattle.generated_session.specs.Counts.{how_many, is_of}
use Rattle.generated_session.proofs.counts.count.Given as goal

abbrev pub invariant-loop-end : goal.invariant-loop-end
invariant-loop-end l = record {
  so_far : l.count + how_many (is_of l.kind) (drop l.end-index l.ends) ≡ how_many (is_of l.kind) l.ends;
  few : l.count ≤ l.end-index;
}
