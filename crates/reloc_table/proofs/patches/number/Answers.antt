use Rattle.std.proofs.Common.{arith}
use Rattle.reloc_table.proofs.Law.{number_at-nothing}
use Rattle.reloc_table.proofs.patches.number.Goals as goal

pub returns-then-width-eq0-clause-exact : goal.returns-then-width-eq0-clause-exact
returns-then-width-eq0-clause-exact c = number_at-nothing c.args.width c.args.at _ (omega arith)
