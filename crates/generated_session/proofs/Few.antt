-- There are no more heads than functions.
use Rattle.std.proofs.Common.{◌≤◌, ℕ, length, arith}
use Rattle.std.specs.List.{range_with_len}
use Rattle.std.proofs.lemmas.List.FromFn.{length-range_with_len}
use Rattle.std.proofs.lemmas.List.Sums.{count_by-le-length, length-filter}
use Rattle.generated_session.specs.Scripts.{heads, is_head}

pub heads_few : (n : ℕ) → length (heads n) ≤ n
heads_few n =
    let all = range_with_len 0 n in
    let few = count_by-le-length is_head all in
    let kept = length-filter is_head all in
    let count = length-range_with_len 0 n in
    omega (arith, few, kept, count)
