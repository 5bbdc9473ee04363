use Rattle.std.proofs.Common.{◌∙◌, ap, ◌*ℤ◌}
use Rattle.std.specs.Int.{int_shr}
use Rattle.rv_hart.specs.Arithmetic.{signed, word_of}
use Rattle.rv_hart.proofs.Words.{upper_word}
use Rattle.rv_hart.proofs.arithmetic.upper_product_signed.Goals as goal

pub returns : goal.returns
returns c =
    let x = c.signed.result in
    let y = c.signed-2.result in
    c.word_of.ensures
    ∙ ap word_of (upper_word x y c.signed.type_inv c.signed-2.type_inv)
    ∙ ap (λ z. word_of (int_shr (z *ℤ y) 64)) c.signed.ensures
    ∙ ap (λ z. word_of (int_shr (signed c.args.a *ℤ z) 64)) c.signed-2.ensures
