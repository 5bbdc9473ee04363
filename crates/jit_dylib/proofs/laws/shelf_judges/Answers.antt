use Rattle.jit_dylib.specs.Shelf.{table_of}
use Rattle.jit_dylib.proofs.Session.{verdicts_same, clash_same}
use Rattle.jit_dylib.proofs.laws.shelf_judges.Goals as goal

pub returns : goal.returns
returns c = λ m d s offers is there. (verdicts_same m.rows d (table_of s d) offers (is.tables d there), clash_same m.rows d (table_of s d) offers (is.tables d there))
