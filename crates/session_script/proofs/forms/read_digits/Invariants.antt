use Rattle.std.proofs.Common.{◌≡◌, ◌≤◌, drop}
use Rattle.session_script.specs.Words.{at_most, number_after}
use Rattle.session_script.proofs.forms.read_digits.Given as goal

-- the digits that are left, after the number so far, write what all digits write
abbrev pub invariant-loop-digit : goal.invariant-loop-digit
invariant-loop-digit l = record {
  small : l.number ≤ l.most;
  same : at_most l.most (number_after l.base l.number (drop l.digit-index l.digits)) ≡ at_most l.most (number_after l.base 0 l.digits);
}
