use Rattle.std.proofs.Common.{◌≡◌, ◌+◌, ◌*◌, ◌^◌, get_or, arith}
use Rattle.std.proofs.lemmas.Nat.{mul-lt}
use Rattle.session_script.specs.Words.{digit_value}
use Rattle.session_script.proofs.Digits.{passed_at}
use Rattle.session_script.proofs.forms.read_digits.Goals as goal

pub overflow_mul-next : goal.overflow_mul-next
overflow_mul-next c = omega (arith, mul-lt c.from.result c.from-in-loop-digit.result (2 ^ 8) (2 ^ 64) (omega arith) (omega arith))

pub overflow_add-next : goal.overflow_add-next
overflow_add-next c = omega (arith, mul-lt c.from.result c.from-in-loop-digit.result (2 ^ 8) (2 ^ 64) (omega arith) (omega arith))

pub returns-then-next-from : goal.returns-then-next-from
returns-then-next-from c =
    let grown : c.from.result * c.from-in-loop-digit.result + c.from-in-loop-digit-2.result ≡ c.args.base * c.loop-digit.number + digit_value (get_or c.args.digits.now c.loop-digit.digit-index 0) = cc in
    passed_at c.args.base c.args.most c.loop-digit.number c.args.digits.now c.loop-digit.digit-index _ c.requires c.loop-digit-test.true
    (grind arith) (omega (arith, grown)) c.loop-digit.invariant.same
