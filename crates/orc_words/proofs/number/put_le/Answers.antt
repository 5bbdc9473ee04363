use Rattle.std.proofs.Common.{ℕ, ap, ◌∙◌}
use Rattle.std.specs.Prelude.{slice_index}
use Rattle.orc_words.specs.Numbers.{number_at}
use Rattle.orc_words.proofs.Numbers.{number_at-with_number, with_number-outside}
use Rattle.orc_words.proofs.number.put_le.Goals as goal

pub returns-clause-reads_back : goal.returns-clause-reads_back
returns-clause-reads_back c =
    ap (λ (bytes : ℕ → ℕ). number_at c.args.width bytes c.args.at) c.write.ensures
    ∙ number_at-with_number c.args.width c.args.at c.args.v (slice_index c.args.bytes.now)

pub returns-clause-others : goal.returns-clause-others
returns-clause-others c place outside =
    ap (λ (bytes : ℕ → ℕ). bytes place) c.write.ensures
    ∙ with_number-outside c.args.width c.args.at c.args.v (slice_index c.args.bytes.now) place outside
