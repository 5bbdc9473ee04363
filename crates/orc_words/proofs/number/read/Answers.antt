use Rattle.std.proofs.Common.{◌≡◌, sym, ◌∙◌, arith, add-zero}
use Rattle.orc_words.proofs.Numbers.{read_at}
use Rattle.orc_words.proofs.number.read.Goals as goal

pub returns-in-1 : goal.returns-in-1
returns-in-1 c = sym (add-zero _) ∙ read_at c.args.width 1 c.args.at c.args.bytes.now c.in-1.is

pub returns-in-2 : goal.returns-in-2
returns-in-2 c = c.read_u16.ensures ∙ read_at c.args.width 2 c.args.at c.args.bytes.now c.in-2.is

pub returns-in-4 : goal.returns-in-4
returns-in-4 c = c.read_u32.ensures ∙ read_at c.args.width 4 c.args.at c.args.bytes.now c.in-4.is

pub returns-in_default : goal.returns-in_default
returns-in_default c =
    let eight : c.args.width ≡ 8 = omega arith in
    c.read_u64.ensures ∙ read_at c.args.width 8 c.args.at c.args.bytes.now eight
