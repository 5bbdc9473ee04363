use Rattle.asm_text.proofs.Bounds.{bounded}
use Rattle.asm_text.proofs.assembler.Assembler.read_labelled.Goals as goal

pub read_statement-requires-clause-bounded : goal.read_statement-requires-clause-bounded
read_statement-requires-clause-bounded c = bounded c.args.line.now c.in-Ok.statement c.in-Ok.ensures.exact
