-- Deposited ranges as a map from addresses to bytes.
use Rattle.std.specs.Prelude.{ℕ, Option, None, ◌+◌, ◌-◌, List, [], ◌∷◌, length, nat_lt, slice_get, if◌then◌else◌}
use Rattle.orc_ids.specs.declared.limits.TheConstants.{CODE_START, CODE_END}
use Rattle.code_memory.specs.declared.image.Segment.{Segment}
use Rattle.code_memory.specs.Apart.{AreApart}

-- the byte at an address, where a range has one
abbrev pub byte_at : List Segment → ℕ → Option ℕ
byte_at [] at = None
byte_at (s ∷ ss) at = if nat_lt at s.base then byte_at ss at else if nat_lt at (s.base + length s.bytes) then slice_get s.bytes (at - s.base) else byte_at ss at

-- ranges inside code memory, in rising order and apart
abbrev pub AreSegments : List Segment → Type 0
AreSegments ss = AreApart (λ s. s.base) (λ s. length s.bytes) CODE_START ss CODE_END
