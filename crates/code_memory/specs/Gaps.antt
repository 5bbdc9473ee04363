-- The gaps between placements, and which of them a shape fits into.
use Rattle.std.specs.Prelude.{ℕ, Option, Some, None, ◌+◌, List, [], ◌∷◌, ◌++◌, nat_lt, ◌==◌, if◌then◌else◌, suc}
use Rattle.std.specs.Int.{next_multiple_of}
use Rattle.orc_ids.specs.declared.place.Shape.{Shape}
use Rattle.orc_ids.specs.declared.limits.TheConstants.{CODE_END}
use Rattle.code_memory.specs.declared.gaps.Gap.{Gap}
use Rattle.code_memory.specs.declared.placement.Placement.{Placement}

-- the gap between two addresses, if there is one
abbrev pub between : ℕ → ℕ → List Gap
between start end = if nat_lt start end then record { start = start; end = end } ∷ [] else []

-- where a placement ends
abbrev pub end_of : Placement → ℕ
end_of p = p.base + p.shape.need

-- the gaps below placements, from low on
abbrev pub gaps_below : ℕ → List Placement → List Gap
gaps_below low [] = []
gaps_below low (p ∷ ps) = between low p.base ++ gaps_below (end_of p) ps

-- where the last placement ends
abbrev pub last_end : ℕ → List Placement → ℕ
last_end low [] = low
last_end low (p ∷ ps) = last_end (end_of p) ps

-- the lowest base in a gap, if the shape fits there
abbrev pub base_in : Shape → Gap → Option ℕ
base_in shape gap =
    let base = next_multiple_of gap.start shape.align in
    if nat_lt gap.end (base + shape.need) then None else Some base

-- the first base that was found, or else a later one
abbrev pub fit_or : ℕ → Option ℕ → Option (ℕ × ℕ) → Option (ℕ × ℕ)
fit_or at None later = later
fit_or at (Some base) later = Some (at, base)

-- the number of the first gap that the shape fits into, counted from `at`, and its base there
abbrev pub first_fit : Shape → ℕ → List Gap → Option (ℕ × ℕ)
first_fit shape at [] = None
first_fit shape at (gap ∷ gaps) = fit_or at (base_in shape gap) (first_fit shape (suc at) gaps)

-- the gaps below a last end, and what is above it
abbrev pub with_rest : List Gap → ℕ → List Gap
with_rest gaps last = gaps ++ record { start = last; end = CODE_END } ∷ []

-- how many gaps end below an address
abbrev pub ending_below : ℕ → List Gap → ℕ
ending_below at [] = 0
ending_below at (gap ∷ gaps) = if nat_lt gap.end at then suc (ending_below at gaps) else 0

-- where the first gap starts, if it ends there, and what is left without it
abbrev pub start_to : ℕ → List Gap → ℕ
start_to end [] = end
start_to end (gap ∷ gaps) = if gap.end == end then gap.start else end

abbrev pub rest_to : ℕ → List Gap → List Gap
rest_to end [] = []
rest_to end (gap ∷ gaps) = if gap.end == end then gaps else gap ∷ gaps

-- where the first gap ends, if it starts there, and what is left without it
abbrev pub end_from : ℕ → List Gap → ℕ
end_from start [] = start
end_from start (gap ∷ gaps) = if gap.start == start then gap.end else start

abbrev pub rest_from : ℕ → List Gap → List Gap
rest_from start [] = []
rest_from start (gap ∷ gaps) = if gap.start == start then gaps else gap ∷ gaps
