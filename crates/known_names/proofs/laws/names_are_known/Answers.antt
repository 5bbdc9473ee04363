use Rattle.known_names.proofs.Knowing.{names_are_known}
use Rattle.known_names.proofs.laws.names_are_known.Goals as goal

pub returns : goal.returns
returns c = names_are_known
