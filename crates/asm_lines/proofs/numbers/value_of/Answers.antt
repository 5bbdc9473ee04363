use Rattle.std.proofs.Common.{◌≡◌, ◌+◌, ◌*◌, min, drop, get_or, sym, ap, ◌∙◌, arith}
use Rattle.std.proofs.Math.Nat.{min-le_right}
use Rattle.asm_lines.specs.Numbers.{digit_of, largest}
use Rattle.asm_lines.proofs.Capped.{capped, next_digit}
use Rattle.asm_lines.proofs.numbers.value_of.Goals as goal

pub loop-byte-preserved : goal.loop-byte-preserved
loop-byte-preserved c =
    let digits = c.args.digits.now in
    let i = c.loop-byte.byte-index in
    let v = c.loop-byte.value in
    let base = c.args.base in
    let next = v * base + digit_of (get_or digits i 0) in
    let cut : c.min-value.result ≡ min next largest = rw (← c.digit_of.ensures) c.min-value.ensures in (
      omega (arith, min-le_right next largest),
      rw cut (capped base next (drop (i + 1) digits) c.requires.low
          ∙ ap (λ x. min x largest) (sym (next_digit base v digits i c.loop-byte-test.true))
          ∙ c.loop-byte.invariant.1),
    )
