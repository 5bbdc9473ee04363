use Rattle.script_model.proofs.Kept.{script_keeps_promises}
use Rattle.script_model.proofs.promises.script_keeps_promises.Goals as goal

pub returns : goal.returns
returns c = script_keeps_promises
