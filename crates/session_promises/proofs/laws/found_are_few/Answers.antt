use Rattle.session_promises.proofs.FoundFew.{found_are_few}
use Rattle.session_promises.proofs.laws.found_are_few.Goals as goal

pub returns : goal.returns
returns c = found_are_few
