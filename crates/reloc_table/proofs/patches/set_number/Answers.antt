use Rattle.std.proofs.Common.{arith}
use Rattle.reloc_table.proofs.Law.{with_number-nothing}
use Rattle.reloc_table.proofs.patches.set_number.Goals as goal

pub returns-else-width-ne0 : goal.returns-else-width-ne0
returns-else-width-ne0 c = with_number-nothing c.args.width c.args.at c.args.n _ (omega arith)
