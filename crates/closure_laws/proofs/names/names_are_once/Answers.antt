use Rattle.closure_laws.proofs.NamesOnce.{names_are_once}
use Rattle.closure_laws.proofs.names.names_are_once.Goals as goal

pub returns : goal.returns
returns c = names_are_once
