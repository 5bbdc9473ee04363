-- The placements of units in code memory (LLVM ORC, `JITLinkMemoryManager`: allocate, finalize, deallocate).
use Rattle.std.specs.Prelude.{◌≡◌, ℕ, Bool, Option, Some, None, ◌+◌, ◌%◌, ◌≤◌, ◌⊎◌, List, [], ◌∷◌, length, map, filter, find, not, ◌==◌, nat_lt, IfSome, if◌then◌else◌}
use Rattle.orc_ids.specs.declared.ids.UnitId.{UnitId}
use Rattle.orc_ids.specs.declared.place.Shape.{Shape}
use Rattle.orc_ids.specs.declared.limits.TheConstants.{CODE_START, CODE_END}
use Rattle.code_memory.specs.declared.image.Segment.{Segment}
use Rattle.code_memory.specs.declared.placement.Placement.{Placement}
use Rattle.code_memory.specs.declared.space.SpaceError.{SpaceError}
use Rattle.code_memory.specs.declared.space.SpaceError.TheVariants.{NoRoom, NoMemory}
use Rattle.code_memory.specs.Apart.{AreApart}

-- the placement is the unit's
abbrev pub is_of : UnitId → Placement → Bool
is_of u p = p.unit.0 == u.0

-- the unit's placement
abbrev pub placement_of : List Placement → UnitId → Option Placement
placement_of ps u = find (is_of u) ps

-- the range of that length from the base on meets the placement's nowhere
abbrev pub IsBeside : ℕ → ℕ → Placement → Type 0
IsBeside base need p = (base + need ≤ p.base) ⊎ (p.base + p.shape.need ≤ base)

-- it meets none of them
abbrev pub IsBesideAll : ℕ → ℕ → List Placement → Type 0
IsBesideAll base need [] = Unit {0}
IsBesideAll base need (p ∷ ps) = IsBeside base need p × IsBesideAll base need ps

-- the base is free for the shape: it is aligned, and its range lies in code memory, beside all placements
pub record IsFree (ps : List Placement) (shape : Shape) (base : ℕ) : Type 0 where
  pub aligned : base % shape.align ≡ 0
  pub from_start : CODE_START ≤ base
  pub to_end : base + shape.need ≤ CODE_END
  pub beside : IsBesideAll base shape.need ps

-- the base is the lowest that is free
pub record IsLowestFree (ps : List Placement) (shape : Shape) (base : ℕ) : Type 0 where
  pub free : IsFree ps shape base
  pub lowest : (other : ℕ) → IsFree ps shape other → base ≤ other

-- no base is free
abbrev pub IsFull : List Placement → Shape → Type 0
IsFull ps shape = (base : ℕ) → IsFree ps shape base → ⊥

-- a placement among others, in rising order of base
abbrev pub placed_among : Placement → List Placement → List Placement
placed_among p [] = p ∷ []
placed_among p (q ∷ qs) = if nat_lt p.base q.base then p ∷ q ∷ qs else q ∷ placed_among p qs

-- the unit has the range of that shape from the base on, without bytes
abbrev pub with_range : List Placement → UnitId → Shape → ℕ → List Placement
with_range ps u shape base = placed_among (record { unit = u; base = base; shape = shape; bytes = None }) ps

-- why no range was given: no base is free, or one is and memory is wanting
abbrev pub IsRefused : List Placement → Shape → SpaceError → Type 0
IsRefused ps shape (NoRoom need) = (need ≡ shape.need) × IsFull ps shape
IsRefused ps shape NoMemory = (base : ℕ) × IsFree ps shape base

-- a placement of the unit gets these bytes
abbrev pub filled : UnitId → List ℕ → Placement → Placement
filled u bytes p = if is_of u p then record p { bytes = Some bytes } else p

-- the unit's range has these bytes
abbrev pub with_bytes : List Placement → UnitId → List ℕ → List Placement
with_bytes ps u bytes = map (filled u bytes) ps

-- the placement is another unit's
abbrev pub is_other : UnitId → Placement → Bool
is_other u p = not (is_of u p)

-- the unit has no range
abbrev pub without : List Placement → UnitId → List Placement
without ps u = filter (is_other u) ps

-- a range before others, if it has bytes
abbrev pub before : ℕ → Option (List ℕ) → List Segment → List Segment
before base None rest = rest
before base (Some bytes) rest = record { base = base; bytes = bytes } ∷ rest

-- the ranges that have bytes
abbrev pub deposits : List Placement → List Segment
deposits [] = []
deposits (p ∷ ps) = before p.base p.bytes (deposits ps)

-- the range is a multiple of its alignment, and its bytes are as long as it
pub record IsWhole (p : Placement) : Type 0 where
  pub aligned : p.base % p.shape.align ≡ 0
  pub full : IfSome p.bytes (λ bytes. length bytes ≡ p.shape.need)

-- each placement of the list is whole
abbrev pub AreWhole : List Placement → Type 0
AreWhole [] = Unit {0}
AreWhole (p ∷ ps) = IsWhole p × AreWhole ps

-- each unit has one range
abbrev pub AreDistinct : List Placement → Type 0
AreDistinct [] = Unit {0}
AreDistinct (p ∷ ps) = (find (is_of p.unit) ps ≡ None) × AreDistinct ps

-- the ranges from low up to high rise and lie apart
abbrev pub AreBetween : ℕ → List Placement → ℕ → Type 0
AreBetween low ps high = AreApart (λ p. p.base) (λ p. p.shape.need) low ps high

-- the ranges are apart, aligned and inside code memory, and each unit has one
pub record AreLaidOut (ps : List Placement) : Type 0 where
  pub apart : AreBetween CODE_START ps CODE_END
  pub whole : AreWhole ps
  pub distinct : AreDistinct ps
