use Rattle.std.proofs.Common.{◌≡◌, drop}
use Rattle.session_model.specs.Change.{is_replaced}
use Rattle.session_plain.proofs.defining.replaced.Given as goal

abbrev pub invariant-loop-verdict : goal.invariant-loop-verdict
invariant-loop-verdict l = is_replaced (drop l.verdict-index l.found) l.i ≡ is_replaced l.found l.i
