-- Storing what is left of the value leaves what storing all of it leaves.
use Rattle.std.proofs.Common.{◌≡◌, ◌+◌, ◌-◌, ◌<◌, ℕ}
use Rattle.std.specs.Prelude.{IsSome}
use Rattle.rv_hart.specs.Map.{stored}
use Rattle.code_memory.specs.Mapped.{byte_at}
use Rattle.exec_run.proofs.access.store_bytes.Given as goal

abbrev pub invariant-loop-k : goal.invariant-loop-k
invariant-loop-k l = record {
  same : stored (byte_at l.memory) (l.at + l.k) (l.width - l.k) l.rest ≡ stored (byte_at l.fn.memory) l.at l.width l.value;
  mapped : (j : ℕ) → j < l.width → IsSome (byte_at l.memory (l.at + j));
}
