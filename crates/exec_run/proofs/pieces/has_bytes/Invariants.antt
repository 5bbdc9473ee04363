-- All bytes are mapped where those that are left are.
use Rattle.std.proofs.Common.{◌≡◌}
use Rattle.std.specs.Prelude.{is_some}
use Rattle.code_memory.specs.Mapped.{byte_at}
use Rattle.exec_run.specs.Bytes.{bytes_from}
use Rattle.exec_run.proofs.pieces.has_bytes.Given as goal

abbrev pub invariant-loop-left : goal.invariant-loop-left
invariant-loop-left l =
    is_some (bytes_from (byte_at l.memory) l.fn.from l.fn.count) ≡ is_some (bytes_from (byte_at l.memory) l.at l.left)

abbrev pub decreases-loop-left : goal.decreases-loop-left
decreases-loop-left l = l.left
