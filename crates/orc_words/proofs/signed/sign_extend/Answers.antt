use Rattle.std.proofs.Common.{◌*◌, ◌^◌, ◌%◌, ap, ◌∙◌, arith}
use Rattle.std.proofs.lemmas.Nat.{one_shl}
use Rattle.orc_words.specs.Bits.{low_of}
use Rattle.orc_words.proofs.Complement.{signed_of-low, signed_of-high, low_of-signed_of}
use Rattle.orc_words.proofs.signed.sign_extend.Goals as goal

pub returns-then-low-modulus-clause-exact : goal.returns-then-low-modulus-clause-exact
returns-then-low-modulus-clause-exact g c =
    signed_of-low g.row.N c.args.part (1 * 2 ^ g.row.N % 2 ^ 128) c.requires.low c.requires.high
    (one_shl g.row.N 128 (omega arith)) c.if-low-modulus.true

pub returns-then-low-modulus-clause-same_bits : goal.returns-then-low-modulus-clause-same_bits
returns-then-low-modulus-clause-same_bits g c =
    ap (low_of g.row.N) (returns-then-low-modulus-clause-exact g c) ∙ low_of-signed_of g.row.N c.args.part

pub returns-else-low-modulus-clause-exact : goal.returns-else-low-modulus-clause-exact
returns-else-low-modulus-clause-exact g c =
    signed_of-high g.row.N c.args.part (1 * 2 ^ g.row.N % 2 ^ 128) c.requires.low c.requires.high
    (one_shl g.row.N 128 (omega arith)) c.if-low-modulus.false

pub returns-else-low-modulus-clause-same_bits : goal.returns-else-low-modulus-clause-same_bits
returns-else-low-modulus-clause-same_bits g c =
    ap (low_of g.row.N) (returns-else-low-modulus-clause-exact g c) ∙ low_of-signed_of g.row.N c.args.part
