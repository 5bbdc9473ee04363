use Rattle.jit_dylib.proofs.Shelves.{shelf_made}
use Rattle.jit_dylib.proofs.laws.shelf_makes.Goals as goal

pub returns : goal.returns
returns c = shelf_made
