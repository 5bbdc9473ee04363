-- The codes so far, and those that are left; none has more than 64 bits.
use Rattle.std.proofs.Common.{◌≡◌, ◌+◌, ◌*◌, ◌≤◌, ◌^◌, drop}
use Rattle.std.specs.Prelude.{sum_by}
use Rattle.generated_session.specs.Counts.{exit_code}
use Rattle.generated_session.proofs.counts.code_sum.Given as goal

abbrev pub invariant-loop-end : goal.invariant-loop-end
invariant-loop-end l = record {
  so_far : l.sum + sum_by exit_code (drop l.end-index l.ends) ≡ sum_by exit_code l.ends;
  few : l.sum ≤ 2 ^ 64 * l.end-index;
}
