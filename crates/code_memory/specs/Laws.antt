-- What follows from the definitions of code memory, as laws.
use Rattle.std.specs.Prelude.{◌≡◌, ◌≢◌, ℕ, Some, ◌+◌, ◌<◌, List, slice_get, MatchOption}
use Rattle.orc_ids.specs.declared.ids.UnitId.{UnitId}
use Rattle.orc_ids.specs.declared.limits.TheConstants.{CODE_START}
use Rattle.orc_ids.specs.declared.place.Shape.{Shape}
use Rattle.code_memory.specs.declared.placement.Placement.{Placement}
use Rattle.code_memory.specs.Gaps.{first_fit, with_rest, gaps_below, last_end}
use Rattle.code_memory.specs.Mapped.{byte_at}
use Rattle.code_memory.specs.Places.{placement_of, deposits, IsBeside, IsFull, IsLowestFree, AreLaidOut}

-- the lowest free base is the one in the first gap that the shape fits into, and there is none where it fits into none
abbrev pub LowestBaseIsInFirstGap : Type 0
LowestBaseIsInFirstGap =
    (ps : List Placement) (shape : Shape) → AreLaidOut ps → 0 < shape.need → 0 < shape.align →
    MatchOption (first_fit shape 0 (with_rest (gaps_below CODE_START ps) (last_end CODE_START ps))) (IsFull ps shape) (λ fit. IsLowestFree ps shape fit.1)

-- the ranges of two units meet nowhere
abbrev pub PlacementsLieApart : Type 0
PlacementsLieApart =
    (ps : List Placement) (u v : UnitId) (p q : Placement) → AreLaidOut ps → u.0 ≢ v.0 → placement_of ps u ≡ Some p → placement_of ps v ≡ Some q → IsBeside p.base p.shape.need q

-- the bytes of a range are mapped at its addresses
abbrev pub DepositsAreMapped : Type 0
DepositsAreMapped =
    (ps : List Placement) (u : UnitId) (p : Placement) (bytes : List ℕ) (k : ℕ)
    → AreLaidOut ps → placement_of ps u ≡ Some p → p.bytes ≡ Some bytes → k < p.shape.need → byte_at (deposits ps) (p.base + k) ≡ slice_get bytes k
