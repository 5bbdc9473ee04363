use Rattle.asm_lines.proofs.Fences.{fence_in_range}
use Rattle.asm_lines.proofs.pseudo.fence_word.Goals as goal

pub returns-clause-in_range : goal.returns-clause-in_range
returns-clause-in_range c = fence_in_range c.args.before c.args.after
