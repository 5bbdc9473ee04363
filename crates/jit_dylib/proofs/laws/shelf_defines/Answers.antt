use Rattle.jit_dylib.proofs.Shelves.{shelf_defined}
use Rattle.jit_dylib.proofs.laws.shelf_defines.Goals as goal

pub returns : goal.returns
returns c = shelf_defined
