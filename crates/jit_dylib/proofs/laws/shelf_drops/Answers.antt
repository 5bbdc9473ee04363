use Rattle.jit_dylib.proofs.Shelves.{shelf_dropped}
use Rattle.jit_dylib.proofs.laws.shelf_drops.Goals as goal

pub returns : goal.returns
returns c = shelf_dropped
