use Rattle.std.proofs.Common.{◌≡◌}
use Rattle.script_lab.specs.Units.{code_bytes}
use Rattle.script_lab.proofs.unit.code_bytes.Given as goal

abbrev pub invariant-loop-k : goal.invariant-loop-k
invariant-loop-k l = l.bytes.items ≡ code_bytes l.answer l.k
