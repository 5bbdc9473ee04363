use Rattle.session_laws.proofs.Along.{prefixes_legal}
use Rattle.session_laws.proofs.histories.prefixes_are_legal.Goals as goal

pub returns : goal.returns
returns c = prefixes_legal
