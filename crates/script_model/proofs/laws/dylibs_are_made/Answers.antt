use Rattle.script_model.proofs.Made.{dylibs_are_made}
use Rattle.script_model.proofs.laws.dylibs_are_made.Goals as goal

pub returns : goal.returns
returns c = dylibs_are_made
