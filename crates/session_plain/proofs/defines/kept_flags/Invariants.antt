use Rattle.std.proofs.Common.{◌≡◌, ◌++◌, drop}
use Rattle.session_model.specs.Change.{kept_names}
use Rattle.session_plain.proofs.defines.kept_flags.Given as goal

abbrev pub invariant-loop-verdict : goal.invariant-loop-verdict
invariant-loop-verdict l = l.flags.items ++ kept_names (drop l.verdict-index l.found) ≡ kept_names l.found
