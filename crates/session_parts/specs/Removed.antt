-- What is left of some units that go, with their names and ranges, and of the generators that go with them.
use Rattle.std.specs.Prelude.{◌≡◌, ℕ, Bool, true, ◌&&◌, ◌==◌, nat_le, nat_lt, not, List, slice_get, Some, None, is_some, option_map, option_and_then, if◌then◌else◌}
use Rattle.std.specs.List.{list_any}
use Rattle.orc_ids.specs.declared.ids.GenId.{GenId}
use Rattle.orc_ids.specs.declared.ids.UnitId.{UnitId}
use Rattle.code_memory.specs.Places.{placement_of}
use Rattle.code_memory.specs.declared.placement.Placement.{Placement}
use Rattle.generators.specs.declared.generator.Generator.{Generator}
use Rattle.jit_dylib.specs.Rows.{Rows, row_at}
use Rattle.mat_unit.specs.declared.unit.Unit.{Unit as OneUnit}
use Rattle.mat_unit.specs.Changes as one
use Rattle.session_model.specs.Lists.{only_if}
use Rattle.session_model.specs.Meaning.{Meaning}
use Rattle.session_model.specs.Plain.{row_test}
use Rattle.session_model.specs.declared.rows.InstRow.{InstRow}
use Rattle.session_model.specs.declared.rows.Row.{Row}
use Rattle.session_parts.specs.Parts.{is_ranged}

-- the unit is among those that go
abbrev pub goes : List UnitId → ℕ → Bool
goes gone u = list_any (λ (v : UnitId). v.0 == u) gone

-- these units are removed, and no others
abbrev pub AreRemoved : {U : Type 0} → List UnitId → List (OneUnit U) → List (OneUnit U) → Type 0
AreRemoved {U} gone old new = (u : ℕ) → slice_get new u ≡ option_map (λ (x : OneUnit U). if goes gone u then one.removed x else x) (slice_get old u)

-- their ranges are free
abbrev pub AreFreed : List UnitId → List Placement → List Placement → Type 0
AreFreed gone old new = (u : ℕ) → placement_of new (record { 0 = u }) ≡ (if goes gone u then None else placement_of old (record { 0 = u }))

-- the units that have a range are those that code memory has one of
abbrev pub AreRanged : {U : Type 0} → (U → Meaning) → List (OneUnit U) → List Placement → Type 0
AreRanged {U} means units space = (u : ℕ) (x : OneUnit U) → slice_get units u ≡ Some x → is_some (placement_of space (record { 0 = u })) ≡ is_ranged means x

-- the generator is among those that go
abbrev pub goes_too : List GenId → ℕ → Bool
goes_too gone g = list_any (λ (h : GenId). h.0 == g) gone

-- these generators are spent, and the others as before
abbrev pub AreSpent : {U : Type 0} → List GenId → List (Generator U) → List (Generator U) → Type 0
AreSpent {U} gone old new = (g : ℕ) → slice_get new g ≡ option_map (λ (x : Generator U). if goes_too gone g then record x { spent = true } else x) (slice_get old g)

-- Names

-- the instance has the name
abbrev pub has_name : List InstRow → ℕ → ℕ → Bool
has_name rows name i = row_test (λ r. r.name.0 == name) rows i

-- it is from the first one on, and before the end, and has the name
abbrev pub is_spanned : ℕ → ℕ → List InstRow → ℕ → ℕ → Bool
is_spanned first end rows name i = (nat_le first i && nat_lt i end) && has_name rows name i

-- its unit passes the test, and it has the name
abbrev pub is_named : (ℕ → Bool) → List InstRow → ℕ → ℕ → Bool
is_named unit rows name i = row_test (λ r. unit r.unit.0 && r.name.0 == name) rows i

-- a name has the row that it had, unless that goes by the name and its instance
abbrev pub IsLeftBut : (ℕ → ℕ → Bool) → Rows → Rows → Type 0
IsLeftBut gone old new = (name : ℕ) → row_at new name ≡ option_and_then (λ (r : Row). only_if (not (gone name r.inst.0)) r) (row_at old name)
