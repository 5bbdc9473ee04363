-- What every row of the table keeps: the bytes that its form can have, and the reach of a format whose
-- immediate is the value itself.
use Rattle.std.specs.Prelude.{◌≡◌, ℕ, ◌⊎◌, ⊤}
use Rattle.link_model.specs.declared.kinds.Form.{Form}
use Rattle.link_model.specs.declared.kinds.Form.TheVariants.{Unwritten, Number, Sum, Difference, LowSix, LowSixDifference, FormatB, FormatJ, FormatU, FormatI, FormatS, Call}
use Rattle.link_model.specs.declared.kinds.Span.{Span}
use Rattle.link_model.specs.declared.kinds.Span.TheVariants.{Branch, Jump}

abbrev pub IsWidth : ℕ → Type 0
IsWidth width = (width ≡ 1) ⊎ (width ≡ 2) ⊎ (width ≡ 4) ⊎ (width ≡ 8)

abbrev pub HasWidth : Form → ℕ → Type 0
HasWidth Unwritten width = width ≡ 0
HasWidth Number width = IsWidth width
HasWidth Sum width = IsWidth width
HasWidth Difference width = IsWidth width
HasWidth LowSix width = width ≡ 1
HasWidth LowSixDifference width = width ≡ 1
HasWidth FormatB width = width ≡ 4
HasWidth FormatJ width = width ≡ 4
HasWidth FormatU width = width ≡ 4
HasWidth FormatI width = width ≡ 4
HasWidth FormatS width = width ≡ 4
HasWidth Call width = width ≡ 8

abbrev pub HasReach : Form → Span → Type 0
HasReach FormatB span = span ≡ Branch
HasReach FormatJ span = span ≡ Jump
HasReach _ span = ⊤
