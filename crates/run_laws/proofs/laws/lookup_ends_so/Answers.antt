use Rattle.run_laws.proofs.Ends.{lookup_ends_so}
use Rattle.run_laws.proofs.laws.lookup_ends_so.Goals as goal

pub returns : goal.returns
returns c = lookup_ends_so
