use Rattle.std.proofs.Common.{◌≡◌, ◌++◌, drop}
use Rattle.jit_dylib.specs.Rows.{replaced_instances}
use Rattle.jit_dylib.proofs.defined.replaced_instances.Given as goal

abbrev pub invariant-loop-verdict : goal.invariant-loop-verdict
invariant-loop-verdict l = l.replaced.items ++ replaced_instances (drop l.verdict-index l.found) ≡ replaced_instances l.found
