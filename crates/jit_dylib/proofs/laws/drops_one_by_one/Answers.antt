use Rattle.std.proofs.Common.{◌∙◌, ap, sym}
use Rattle.jit_dylib.specs.Rows.{row_at, left_row}
use Rattle.jit_dylib.proofs.Shelves.{left_twice}
use Rattle.jit_dylib.proofs.laws.drops_one_by_one.Goals as goal

pub returns : goal.returns
returns c = λ gone more old mid new first then_more name. then_more name ∙ (ap (left_row more name) (first name) ∙ sym (left_twice gone more name (row_at old name)))
