-- Where a unit may be placed, among ranges that are taken.
use Rattle.std.specs.Prelude.{◌≡◌, ℕ, ◌+◌, ◌-◌, ◌*◌, ◌/◌, ◌%◌, ◌≤◌, List, All}
use Rattle.orc_ids.specs.declared.limits.TheConstants.{CODE_START, CODE_END}
use Rattle.orc_ids.specs.declared.place.Shape.{Shape}
use Rattle.session_model.specs.Answer.{Apart}
use Rattle.session_model.specs.declared.rows.Range.{Range}

-- the least multiple of the alignment that is no less
abbrev pub align_up : ℕ → ℕ → ℕ
align_up at align = (at + (align - 1)) / align * align

-- the base is aligned, in code memory, and apart from all of the ranges
pub record FitsAt (ranges : List Range) (shape : Shape) (base : ℕ) : Type 0 where
  pub aligned : base % shape.align ≡ 0
  pub starts : CODE_START ≤ base
  pub ends : base + shape.need ≤ CODE_END
  pub apart : All (λ r. Apart r base shape.need) ranges

-- the base right behind this address is none
abbrev pub FitsNotBehind : List Range → Shape → ℕ → Type 0
FitsNotBehind ranges shape at = FitsAt ranges shape (align_up at shape.align) → ⊥
