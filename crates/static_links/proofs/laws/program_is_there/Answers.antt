use Rattle.static_links.proofs.Program.{program_is_there}
use Rattle.static_links.proofs.laws.program_is_there.Goals as goal

pub returns : goal.returns
returns c = program_is_there
