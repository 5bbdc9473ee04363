-- How a space keeps its placements: by base, with the base of each unit, and the gaps below them.
use Rattle.std.specs.Prelude.{◌≡◌, ℕ, ◌<◌, Some, List, ◌∷◌, ◌++◌, length, map, option_map, nat_eq, if◌then◌else◌}
use Rattle.std.specs.Ordering.{nat_cmp}
use Rattle.std.specs.BTreeMap.{is_at}
use Rattle.std.specs.BTreeMap.Range.{entries_between}
use Rattle.std.specs.declared.ops.Bound.TheVariants.{Included, Unbounded}
use Rattle.std.specs.HashMap.{HashMap, get}
use Rattle.std.specs.Map.{values_of, lookup, set_value}
use Rattle.std.specs.declared.hash.FoldHasher.{FoldHasher}
use Rattle.std.specs.declared.hash.BuildHasherDefault.{BuildHasherDefault}
use Rattle.orc_ids.specs.declared.ids.UnitId.{UnitId}
use Rattle.orc_ids.specs.declared.limits.TheConstants.{CODE_START, CODE_END}
use Rattle.code_memory.specs.declared.gaps.Gap.{Gap}
use Rattle.code_memory.specs.declared.last_image.LastImage.{LastImage}
use Rattle.code_memory.specs.declared.placement.Placement.{Placement}
use Rattle.code_memory.specs.Gaps.{gaps_below, last_end, end_of}
use Rattle.code_memory.specs.LastImage.{IsLastOf}
use Rattle.code_memory.specs.Places.{placement_of, deposits, AreBetween, AreLaidOut}

-- the base of each unit
abbrev pub Bases : Type 0
Bases = HashMap ℕ ℕ (BuildHasherDefault FoldHasher)

-- each unit has the base that it had
abbrev pub KeepBases : Bases → Bases → Type 0
KeepBases bases now = (u : ℕ) → get nat_eq now u ≡ get nat_eq bases u

-- the unit gets the base, and each other has the base that it had
abbrev pub GetsBase : ℕ → ℕ → Bases → Bases → Type 0
GetsBase unit base bases now = (u : ℕ) → get nat_eq now u ≡ (if nat_eq unit u then Some base else get nat_eq bases u)

-- the placements as entries, each at its base
abbrev pub keyed : List Placement → List (ℕ × Placement)
keyed ps = map (λ p. (p.base, p)) ps

-- the fact holds of the placement at the base, if there is one
abbrev pub IfAt : List (ℕ × Placement) → ℕ → (Placement → Type 0) → Type 0
IfAt placed base Fact = (p : Placement) → lookup (is_at (nat_cmp base)) placed ≡ Some p → Fact p

-- the placement at the base, if there is one, gets these bytes
abbrev pub Fills : List (ℕ × Placement) → ℕ → List ℕ → List (ℕ × Placement) → Type 0
Fills placed base bytes now = IfAt placed base (λ p. now ≡ set_value (is_at (nat_cmp base)) placed (record p { bytes = Some bytes }))

-- the placements from a base on
abbrev pub placements_from : ℕ → List (ℕ × Placement) → List Placement
placements_from base placed = values_of (entries_between nat_cmp (Included base) Unbounded placed)

-- the units have the bases of their placements, and others have none
pub record AreKnown (bases : Bases) (ps : List Placement) : Type 0 where
  pub at : (u : UnitId) → get nat_eq bases u.0 ≡ option_map (λ p. p.base) (placement_of ps u)

-- the gaps are those below the placements, and the last of these ends there
pub record AreGaps (gaps : List Gap) (last : ℕ) (ps : List Placement) : Type 0 where
  pub below : gaps ≡ gaps_below CODE_START ps
  pub ends : last ≡ last_end CODE_START ps

-- the placement has that range, and stands between others in code memory
pub record IsCut (low : List Placement) (p : Placement) (high : List Placement) (base end : ℕ) : Type 0 where
  pub starts : base ≡ p.base
  pub ends : end ≡ end_of p
  pub apart : AreBetween CODE_START (low ++ p ∷ high) CODE_END

-- gaps of placements without the range, of which `at` lie below it, became those of the placements with it
abbrev pub TakesOut : ℕ → ℕ → ℕ → List Gap → ℕ → List Gap → ℕ → Type 0
TakesOut at base end gaps last now top =
    (low : List Placement) (p : Placement) (high : List Placement)
    → IsCut low p high base end → AreGaps gaps last (low ++ high) → at ≡ length (gaps_below CODE_START low) → AreGaps now top (low ++ p ∷ high)

-- gaps of placements with the range became those of the placements without it
abbrev pub GivesBack : ℕ → ℕ → List Gap → ℕ → List Gap → ℕ → Type 0
GivesBack base end gaps last now top =
    (low : List Placement) (p : Placement) (high : List Placement)
    → IsCut low p high base end → AreGaps gaps last (low ++ p ∷ high) → AreGaps now top (low ++ high)

-- what a space keeps belongs together, and there is room for the gap that a placement leaves
pub record IsTied (placed : List (ℕ × Placement)) (bases : Bases) (gaps : List Gap) (room last : ℕ) : Type 0 where
  pub by_base : placed ≡ keyed (values_of placed)
  pub known : AreKnown bases (values_of placed)
  pub filled : AreGaps gaps last (values_of placed)
  pub spare : 0 < length placed → length placed < room
  pub laid_out : AreLaidOut (values_of placed)

-- all of that, and the last image is of what is deposited
pub record IsSpace (placed : List (ℕ × Placement)) (bases : Bases) (gaps : List Gap) (room last : ℕ) (recent : LastImage) : Type 0 where
  pub tied : IsTied placed bases gaps room last
  pub shown : IsLastOf recent (deposits (values_of placed))
