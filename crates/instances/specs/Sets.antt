-- A set of instances with a flag for each.
use Rattle.std.specs.Prelude.{◌≡◌, ℕ, ◌+◌, ◌≤◌, suc, Bool, false, ◌&&◌, ◌||◌, nat_le, nat_lt, List, [], ◌∷◌, length, slice_get, unwrap_or, if◌then◌else◌}
use Rattle.orc_ids.specs.declared.ids.InstId.{InstId}
use Rattle.instances.specs.Table.{is_among}

-- the instances, and below which number there is room for them
pub record Members : Type 0 where
  pub items : List InstId
  pub places : ℕ

-- whether the flag number k is set
abbrev pub is_set : List Bool → ℕ → Bool
is_set flags k = unwrap_or (slice_get flags k) false

-- how many flags are not set
abbrev pub unset : List Bool → ℕ
unset [] = 0
unset (x ∷ xs) = if x then unset xs else suc (unset xs)

-- exactly the listed instances have a flag, each is listed once, and there is room for all
pub record AreFlagged (items : List InstId) (flags : List Bool) (room : ℕ) : Type 0 where
  pub flagged : (k : ℕ) → is_set flags k ≡ is_among items k
  pub once : length items + unset flags ≤ length flags
  pub fits : length flags ≤ room

-- those that pass the test are added
abbrev pub Adds : (ℕ → Bool) → Members → Members → Type 0
Adds test old new = (k : ℕ) → is_among new.items k ≡ (is_among old.items k || test k)

-- those for which there is room
abbrev pub AddsPlaced : (ℕ → Bool) → Members → Members → Type 0
AddsPlaced test old new = Adds (λ k. test k && nat_lt k old.places) old new

-- those of a span for which there is room
abbrev pub AddsSpan : ℕ → ℕ → Members → Members → Type 0
AddsSpan first count old new = Adds (λ k. nat_le first k && nat_lt k (first + count) && nat_lt k old.places) old new
