use Rattle.std.proofs.Common.{ℕ, ◌<◌, ◌^◌, sym, subst, arith}
use Rattle.std.proofs.lemmas.Nat.{and_mask}
use Rattle.orc_words.proofs.Fields.{with_bits-lt}
use Rattle.reloc_table.proofs.patches.with_low_six.Goals as goal

pub returns-clause-bound : goal.returns-clause-bound
returns-clause-bound c =
    subst (λ (x : ℕ). x < 2 ^ 8) (sym c.put.ensures.exact)
    (with_bits-lt 8 0 6 c.args.old _ (omega arith) c.requires (omega (arith, and_mask c.args.bits 6)))
