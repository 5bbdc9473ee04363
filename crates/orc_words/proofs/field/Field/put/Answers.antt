use Rattle.std.proofs.Common.{ℕ, ◌+◌, ◌-◌, inl, inr, ap, ◌∙◌, arith}
use Rattle.std.specs.Int.{bit_at}
use Rattle.orc_words.specs.Bits.{bits_at}
use Rattle.orc_words.proofs.Fields.{bits_at-with_same, bit_at-with_other}
use Rattle.orc_words.proofs.field.Field.put.Goals as goal

pub returns-clause-reads_back : goal.returns-clause-reads_back
returns-clause-reads_back g c =
    ap (bits_at g.row.LO (g.row.HI + 1 - g.row.LO)) c.replaced.ensures.exact
    ∙ bits_at-with_same g.row.LO (g.row.HI + 1 - g.row.LO) c.args.word c.args.part c.requires.fits

pub returns-clause-others : goal.returns-clause-others
returns-clause-others g c i outside =
    ap (λ (x : ℕ). bit_at x i) c.replaced.ensures.exact
    ∙ bit_at-with_other g.row.LO (g.row.HI + 1 - g.row.LO) c.args.word c.args.part i c.requires.fits
    (elim outside [ inl below ↦ inl below | inr above ↦ inr (omega arith) ])
