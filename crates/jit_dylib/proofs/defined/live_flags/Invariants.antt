use Rattle.std.proofs.Common.{◌≡◌, ◌++◌, drop}
use Rattle.session_model.specs.Change.{kept_names}
use Rattle.jit_dylib.proofs.defined.live_flags.Given as goal

abbrev pub invariant-loop-verdict : goal.invariant-loop-verdict
invariant-loop-verdict l = l.live.items ++ kept_names (drop l.verdict-index l.found) ≡ kept_names l.found
