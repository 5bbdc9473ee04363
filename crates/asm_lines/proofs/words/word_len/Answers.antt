use Rattle.std.proofs.Common.{arith, not}
use Rattle.std.proofs.lemmas.List.Sums.{prefix_len-le-length}
use Rattle.asm_lines.specs.Words.{is_blank}
use Rattle.asm_lines.proofs.words.word_len.Goals as goal

pub returns-in-None-clause-exact : goal.returns-in-None-clause-exact
returns-in-None-clause-exact c = grind (arith, prefix_len-le-length (λ b. not (is_blank b)) c.args.text.now)
