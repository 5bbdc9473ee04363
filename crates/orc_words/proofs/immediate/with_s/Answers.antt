use Rattle.std.proofs.Common.{ℕ, ap, ◌∙◌}
use Rattle.std.specs.Int.{bit_at}
use Rattle.orc_words.specs.Immediates.{with_s, s_immediate}
use Rattle.orc_words.proofs.Writers.{s_immediate-with_s, with_s-others}
use Rattle.orc_words.proofs.immediate.with_s.Goals as goal

pub returns-clause-exact : goal.returns-clause-exact
unfolding with_s
returns-clause-exact c = cc

pub returns-clause-reads_back : goal.returns-clause-reads_back
returns-clause-reads_back c =
    ap s_immediate (returns-clause-exact c) ∙ s_immediate-with_s c.args.word c.args.part

pub returns-clause-others : goal.returns-clause-others
returns-clause-others c i outside =
    ap (λ (x : ℕ). bit_at x i) (returns-clause-exact c) ∙ with_s-others c.args.word c.args.part i outside
