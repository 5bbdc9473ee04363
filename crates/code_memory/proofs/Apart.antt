-- Ranges that rise are as many at most as the addresses between their bounds.
use Rattle.std.proofs.Common.{ℕ, ◌+◌, ◌^◌, ◌≤◌, ◌<◌, List, [], ◌∷◌, length, arith}
use Rattle.code_memory.specs.Apart.{AreApart}
use Rattle.code_memory.specs.Mapped.{AreSegments}
use Rattle.orc_ids.specs.declared.limits.TheConstants.{CODE_START, CODE_END}
use Rattle.code_memory.specs.declared.image.Segment.{Segment}

-- each range takes an address at least
pub few_ranges : {X : Type 0} (base size : X → ℕ) (low : ℕ) (xs : List X) (high : ℕ) → AreApart base size low xs high → low + length xs ≤ high
few_ranges base size low [] high apart = omega arith
few_ranges base size low (x ∷ xs) high apart =
    omega (arith, apart.0, apart.1, few_ranges base size (base x + size x) xs high apart.2)

-- an image has fewer ranges than a u32 counts
pub few_segments : (ss : List Segment) → AreSegments ss → length ss < 2 ^ 32
few_segments ss apart = omega (arith, few_ranges (λ s. s.base) (λ s. length s.bytes) CODE_START ss CODE_END apart)
