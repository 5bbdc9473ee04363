use Rattle.session_promises.proofs.Failures.{nothing_else_fails}
use Rattle.session_promises.proofs.laws.nothing_else_fails.Goals as goal

pub returns : goal.returns
returns c = nothing_else_fails
