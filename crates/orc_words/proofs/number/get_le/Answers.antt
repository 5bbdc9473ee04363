use Rattle.std.proofs.Common.{ℕ, ◌<◌, ◌*◌, ◌^◌, sym, subst}
use Rattle.std.specs.Prelude.{slice_index}
use Rattle.orc_words.proofs.Numbers.{number_at-lt}
use Rattle.orc_words.proofs.number.get_le.Goals as goal

pub returns-clause-bound : goal.returns-clause-bound
returns-clause-bound c =
    subst (λ (x : ℕ). x < 2 ^ (8 * c.args.width)) (sym c.read.ensures)
    (number_at-lt c.args.width (slice_index c.args.bytes.now) c.args.at (λ k. (c.type_inv.bytes k).fits))
