use Rattle.std.proofs.Common.{◌≡◌, ◌≤◌, take}
use Rattle.std.specs.Prelude.{count_by}
use Rattle.linking_tests.proofs.session_units_tests.rows.live_count.Given as goal

abbrev pub invariant-loop-flag : goal.invariant-loop-flag
invariant-loop-flag l = (l.count ≡ count_by (λ b. b) (take l.flag-index l.live)) × (l.count ≤ l.flag-index)
