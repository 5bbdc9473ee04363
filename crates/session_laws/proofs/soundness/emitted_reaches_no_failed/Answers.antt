use Rattle.session_laws.proofs.Readying.{emitted_reaches_no_failed}
use Rattle.session_laws.proofs.soundness.emitted_reaches_no_failed.Goals as goal

pub returns : goal.returns
returns c = emitted_reaches_no_failed
