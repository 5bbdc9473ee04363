use Rattle.std.proofs.Common.{◌≡◌, ℕ, ◌*◌, ◌^◌, ◌%◌, sym, ap, ◌∙◌, arith}
use Rattle.std.proofs.lemmas.Nat.{one_shl, and_mask}
use Rattle.reloc_table.proofs.Low.{low_of-bits, cast_bits}
use Rattle.reloc_table.proofs.parts.low_bits.Goals as goal

pub returns-clause-exact : goal.returns-clause-exact
returns-clause-exact g c =
    let one : 1 * 2 ^ g.row.N % 2 ^ 64 ≡ 2 ^ g.row.N = one_shl g.row.N 64 (omega arith) in
    let bits = cast_bits c.args.v c.cast_unsigned.result c.ranges.v c.cast_unsigned.ensures in
    rw (one, and_mask) (ap (λ (x : ℕ). x % 2 ^ g.row.N) bits ∙ sym (low_of-bits g.row.N c.args.v (omega arith) c.ranges.v))
