use Rattle.jit_dylib.proofs.Shelves.{table_dropped}
use Rattle.jit_dylib.proofs.laws.drops_as_the_session.Goals as goal

pub returns : goal.returns
returns c = table_dropped
