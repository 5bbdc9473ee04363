use Rattle.std.proofs.Common.{ℕ, ap, ◌∙◌}
use Rattle.std.specs.Int.{bit_at}
use Rattle.orc_words.specs.Immediates.{with_j, j_immediate}
use Rattle.orc_words.proofs.Writers.{j_immediate-with_j, with_j-others}
use Rattle.orc_words.proofs.immediate.with_j.Goals as goal

pub returns-clause-exact : goal.returns-clause-exact
unfolding with_j
returns-clause-exact c = cc

pub returns-clause-reads_back : goal.returns-clause-reads_back
returns-clause-reads_back c even =
    ap j_immediate (returns-clause-exact c) ∙ j_immediate-with_j c.args.word c.args.part even

pub returns-clause-others : goal.returns-clause-others
returns-clause-others c i outside =
    ap (λ (x : ℕ). bit_at x i) (returns-clause-exact c) ∙ with_j-others c.args.word c.args.part i outside
