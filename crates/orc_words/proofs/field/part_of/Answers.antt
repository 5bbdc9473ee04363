use Rattle.std.proofs.Common.{◌≡◌, ◌^◌, ◌*◌, ◌%◌, refl, arith}
use Rattle.std.proofs.lemmas.Nat.{one_shl, and_mask}
use Rattle.orc_words.specs.Bits.{bits_at}
use Rattle.orc_words.proofs.field.part_of.Goals as goal

pub returns-clause-exact : goal.returns-clause-exact
unfolding bits_at
returns-clause-exact c =
    let e : 1 * 2 ^ c.args.count % 2 ^ 64 ≡ 2 ^ c.args.count = one_shl c.args.count 64 (omega arith) in
    rw (e, and_mask) refl
