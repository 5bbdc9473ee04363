-- The image that was asked for last, beside what is deposited now.
use Rattle.std.specs.Prelude.{◌≡◌, ℕ, Option, Some, None, List, ◌∷◌, ◌++◌, filter, nat_lt, if◌then◌else◌, IfSome}
use Rattle.std.specs.Ordering.{nat_cmp}
use Rattle.std.specs.BTreeMap.{is_at}
use Rattle.std.specs.Map.{lookup}
use Rattle.code_memory.specs.declared.image.Segment.{Segment}
use Rattle.code_memory.specs.declared.last_image.LastImage.{LastImage}
use Rattle.code_memory.specs.declared.placement.Placement.{Placement}
use Rattle.code_memory.specs.Places.{deposits}

-- the ranges whose bases are below an address
abbrev pub based_below : ℕ → List Segment → List Segment
based_below at ss = filter (λ s. nat_lt s.base at) ss

-- the lower of two bases, or the one that there is
abbrev pub lowest : Option ℕ → ℕ → ℕ
lowest None base = base
lowest (Some earlier) base = if nat_lt earlier base then earlier else base

-- the lists are the same, as far as the lowest base at which something changed, if anything did
abbrev pub IsSame : Option ℕ → List Segment → List Segment → Type 0
IsSame None shown deposited = shown ≡ deposited
IsSame (Some base) shown deposited = based_below base shown ≡ based_below base deposited

-- the image that is kept, if one is, has what is deposited as far as nothing changed
abbrev pub IsLastOf : LastImage → List Segment → Type 0
IsLastOf last deposited = IfSome last.image (λ shown. IsSame last.changed shown deposited)

-- no image is kept, so that it is the last whatever is deposited
abbrev pub IsLastOfAny : LastImage → Type 0
IsLastOfAny last = (deposited : List Segment) → IsLastOf last deposited

-- what is deposited changed at the base, and not below it
abbrev pub Touches : ℕ → LastImage → LastImage → Type 0
Touches base last next = (was now : List Segment) → IsLastOf last was → based_below base was ≡ based_below base now → IsLastOf next now

-- the placement at the base, if there is one, left
abbrev pub Leaves : List (ℕ × Placement) → ℕ → LastImage → LastImage → Type 0
Leaves placed base last next =
    (low : List Placement) (p : Placement) (high : List Placement)
    → lookup (is_at (nat_cmp base)) placed ≡ Some p → base ≡ p.base → IsLastOf last (deposits (low ++ p ∷ high)) → IsLastOf next (deposits (low ++ high))
