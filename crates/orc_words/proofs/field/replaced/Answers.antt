use Rattle.std.proofs.Common.{ℕ, ◌<◌, ◌^◌, sym, subst}
use Rattle.orc_words.proofs.Fields.{with_bits-shifts, with_bits-lt}
use Rattle.orc_words.proofs.field.replaced.Goals as goal

pub returns-clause-exact : goal.returns-clause-exact
returns-clause-exact c =
    with_bits-shifts c.args.low c.args.count c.args.word c.args.part c.requires.inside c.requires.word c.requires.part

pub returns-clause-bound : goal.returns-clause-bound
returns-clause-bound c =
    subst (λ (x : ℕ). x < 2 ^ 32) (sym (returns-clause-exact c))
    (with_bits-lt 32 c.args.low c.args.count c.args.word c.args.part c.requires.inside c.requires.word c.requires.part)
