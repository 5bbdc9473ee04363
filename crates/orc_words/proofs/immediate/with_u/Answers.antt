use Rattle.std.proofs.Common.{ℕ, ap, ◌∙◌}
use Rattle.std.specs.Int.{bit_at}
use Rattle.orc_words.specs.Immediates.{with_u, u_immediate}
use Rattle.orc_words.proofs.Writers.{u_immediate-with_u, with_u-others}
use Rattle.orc_words.proofs.immediate.with_u.Goals as goal

pub returns-clause-exact : goal.returns-clause-exact
unfolding with_u
returns-clause-exact c = cc

pub returns-clause-reads_back : goal.returns-clause-reads_back
returns-clause-reads_back c =
    ap u_immediate (returns-clause-exact c) ∙ u_immediate-with_u c.args.word c.args.part

pub returns-clause-others : goal.returns-clause-others
returns-clause-others c i outside =
    ap (λ (x : ℕ). bit_at x i) (returns-clause-exact c) ∙ with_u-others c.args.word c.args.part i outside
