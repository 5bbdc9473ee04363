use Rattle.as_command.proofs.Stopped.{stopped_found}
use Rattle.as_command.proofs.assembly.find_assembly.Goals as goal

pub returns-in-Err-clause-found : goal.returns-in-Err-clause-found
returns-in-Err-clause-found g c = stopped_found _ _ _ _ _ _ c.new.ensures c.in-Err.ensures.stopped
