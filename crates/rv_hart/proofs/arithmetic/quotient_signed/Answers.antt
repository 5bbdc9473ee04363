use Rattle.std.proofs.Common.{arith, ◌≡◌, ◌∙◌, ap}
use Rattle.std.proofs.Math.Facts.{Fits-lt-pow}
use Rattle.std.proofs.lemmas.Grind.{common_steps}
use Rattle.std.specs.Int.RustNames.{int_div}
use Rattle.rv_hart.specs.Arithmetic.{signed, word_of}
use Rattle.rv_hart.proofs.Words.{nonzero, quotient_word}
use Rattle.rv_hart.proofs.arithmetic.quotient_signed.Goals as goal

pub wrapping_div-requires : goal.wrapping_div-requires
wrapping_div-requires c =
    let y = c.signed-else-b-eq0 in nonzero c.args.b y.result y.ensures (Fits-lt-pow c.ranges.b) c.if-b-eq0.false y.type_inv

pub returns-else-b-eq0 : goal.returns-else-b-eq0
returns-else-b-eq0 c =
    let x = c.signed in
    let y = c.signed-else-b-eq0 in
    let q = c.wrapping_div in
    let e : c.word_of.result ≡ word_of (int_div (signed c.args.a) (signed c.args.b)) =
    c.word_of.ensures
    ∙ quotient_word x.result y.result q.result x.type_inv y.type_inv q.type_inv q.ensures
    ∙ ap (λ z. word_of (int_div z y.result)) x.ensures
    ∙ ap (λ z. word_of (int_div (signed c.args.a) z)) y.ensures in
    grind (arith, common_steps, e)
