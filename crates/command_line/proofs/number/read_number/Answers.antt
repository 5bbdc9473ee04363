use Rattle.std.proofs.Common.{sym, ap, ◌∙◌, arith, rules}
use Rattle.command_line.specs.Numbers.{at_most}
use Rattle.command_line.proofs.Digits.{parsed, filtered}
use Rattle.command_line.proofs.number.read_number.Goals as goal

pub returns : goal.returns
returns c =
    filtered c.args.most _ (λ n b told. search rules) c.ok.result c.filter.result c.filter.ensures
    ∙ ap (at_most c.args.most) c.ok.ensures.value
    ∙ parsed c.args.most c.args.text.now c.parse.result (omega arith) (sym c.is_padded.ensures ∙ c.if-is_padded.false) c.parse.ensures.value.0
