use Rattle.jit_dylib.proofs.Shelves.{table_defined}
use Rattle.jit_dylib.proofs.laws.defines_as_the_session.Goals as goal

pub returns : goal.returns
returns c = table_defined
