use Rattle.std.proofs.Common.{ℕ, ap, ◌∙◌}
use Rattle.std.specs.Int.{bit_at}
use Rattle.orc_words.specs.Immediates.{with_b, b_immediate}
use Rattle.orc_words.proofs.Writers.{b_immediate-with_b, with_b-others}
use Rattle.orc_words.proofs.immediate.with_b.Goals as goal

pub returns-clause-exact : goal.returns-clause-exact
unfolding with_b
returns-clause-exact c = cc

pub returns-clause-reads_back : goal.returns-clause-reads_back
returns-clause-reads_back c even =
    ap b_immediate (returns-clause-exact c) ∙ b_immediate-with_b c.args.word c.args.part even

pub returns-clause-others : goal.returns-clause-others
returns-clause-others c i outside =
    ap (λ (x : ℕ). bit_at x i) (returns-clause-exact c) ∙ with_b-others c.args.word c.args.part i outside
