use Rattle.jit_dylib.proofs.Shelves.{table_elsewhere}
use Rattle.jit_dylib.proofs.laws.defines_nothing_elsewhere.Goals as goal

pub returns : goal.returns
returns c = table_elsewhere
