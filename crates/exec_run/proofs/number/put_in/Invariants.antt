-- Writing what is left of the value leaves what writing all of it leaves.
use Rattle.std.proofs.Common.{◌≡◌, ◌+◌, ◌-◌, length}
use Rattle.exec_run.specs.Regions.{with_number}
use Rattle.exec_run.proofs.number.put_in.Given as goal

abbrev pub invariant-loop-k : goal.invariant-loop-k
invariant-loop-k l = record {
  same : with_number l.bytes (l.place + l.k) (l.width - l.k) l.rest ≡ with_number l.fn.bytes l.place l.width l.value;
  long : length l.bytes ≡ length l.fn.bytes;
}
