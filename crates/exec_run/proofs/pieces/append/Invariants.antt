-- What was added and the bytes that are left are all bytes.
use Rattle.std.proofs.Common.{◌≡◌, ◌++◌}
use Rattle.std.specs.Prelude.{option_map, IsSome}
use Rattle.code_memory.specs.Mapped.{byte_at}
use Rattle.exec_run.specs.Bytes.{bytes_from}
use Rattle.exec_run.proofs.pieces.append.Given as goal

abbrev pub invariant-loop-left : goal.invariant-loop-left
invariant-loop-left l = record {
  mapped : IsSome (bytes_from (byte_at l.memory) l.at l.left);
  same : option_map (λ more. l.output.items ++ more) (bytes_from (byte_at l.memory) l.at l.left)
      ≡ option_map (λ all. l.fn.output.items ++ all) (bytes_from (byte_at l.memory) l.fn.from l.fn.count);
}

abbrev pub decreases-loop-left : goal.decreases-loop-left
decreases-loop-left l = l.left
