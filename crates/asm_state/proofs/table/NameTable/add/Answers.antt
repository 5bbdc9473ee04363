use Rattle.std.proofs.Common.{ap, ◌∙◌}
use Rattle.asm_state.specs.Names.{has}
use Rattle.asm_state.proofs.Lasts.{has_last}
use Rattle.asm_state.proofs.table.NameTable.add.Goals as goal

pub returns-clause-there : goal.returns-clause-there
returns-clause-there c = ap (has c.args.name.now) c.in_ok-push.ensures.added ∙ has_last c.args.name.now c.args.self.now
