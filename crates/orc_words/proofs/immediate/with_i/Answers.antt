use Rattle.std.proofs.Common.{ℕ, ap, ◌∙◌}
use Rattle.std.specs.Int.{bit_at}
use Rattle.orc_words.specs.Immediates.{with_i, i_immediate}
use Rattle.orc_words.proofs.Writers.{i_immediate-with_i, with_i-others}
use Rattle.orc_words.proofs.immediate.with_i.Goals as goal

pub returns-clause-exact : goal.returns-clause-exact
unfolding with_i
returns-clause-exact c = cc

pub returns-clause-reads_back : goal.returns-clause-reads_back
returns-clause-reads_back c =
    ap i_immediate (returns-clause-exact c) ∙ i_immediate-with_i c.args.word c.args.part

pub returns-clause-others : goal.returns-clause-others
returns-clause-others c i outside =
    ap (λ (x : ℕ). bit_at x i) (returns-clause-exact c) ∙ with_i-others c.args.word c.args.part i outside
