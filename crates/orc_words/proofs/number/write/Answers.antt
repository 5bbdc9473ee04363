use Rattle.std.proofs.Common.{◌≡◌, arith}
use Rattle.std.proofs.lemmas.Nat.{and_mask}
use Rattle.orc_words.proofs.Numbers.{placed_bytes, placed_byte}
use Rattle.orc_words.proofs.number.write.Goals as goal

pub returns-in-1 : goal.returns-in-1
returns-in-1 c = placed_byte _ c.args.at c.args.width c.args.v _ c.requires.inside c.in-1.is (and_mask c.args.v 8)

pub returns-in-2 : goal.returns-in-2
returns-in-2 c =
    placed_bytes _ _ _ c.args.at c.args.width 2 c.args.v _ c.requires.inside c.in-2.is c.write_u16.auto.buf c.write_u16.ensures
    (and_mask c.args.v 16)

pub returns-in-4 : goal.returns-in-4
returns-in-4 c =
    placed_bytes _ _ _ c.args.at c.args.width 4 c.args.v _ c.requires.inside c.in-4.is c.write_u32.auto.buf c.write_u32.ensures
    (and_mask c.args.v 32)

pub returns-in_default : goal.returns-in_default
returns-in_default c =
    let eight : c.args.width ≡ 8 = omega arith in
    placed_bytes _ _ _ c.args.at c.args.width 8 c.args.v _ c.requires.inside eight c.write_u64.auto.buf c.write_u64.ensures
    (omega arith)
