use Rattle.std.proofs.Common.{ℕ, ◌==◌, arith, not}
use Rattle.std.proofs.lemmas.List.Sums.{prefix_len-le-length}
use Rattle.asm_lines.proofs.words.len_before.Goals as goal

pub returns-in-None-clause-exact : goal.returns-in-None-clause-exact
returns-in-None-clause-exact c = grind (arith, prefix_len-le-length (λ (b : ℕ). not (b == c.args.wanted)) c.args.text.now)
