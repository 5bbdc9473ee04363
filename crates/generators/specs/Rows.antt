-- The generators of a session, and which of them offer a name.
use Rattle.std.specs.Prelude.{ℕ, Bool, false, true, ◌&&◌, ◌==◌, not, List, Option, slice_get, option_map}
use Rattle.std.specs.List.{position_from}
use Rattle.std.specs.Option.{option_map_or}
use Rattle.orc_ids.specs.declared.ids.GenId.{GenId}
use Rattle.orc_ids.specs.declared.lookup.Scope.{Scope}
use Rattle.session_model.specs.Match.{offers_name}
use Rattle.session_model.specs.Meaning.{Meaning}
use Rattle.session_model.specs.Plain.{GenRow}
use Rattle.generators.specs.declared.generator.Generator.{Generator}

-- the generators by number; for how many offered names of one more generator there is room, and for
-- how many more generators there is a place
pub record Stock (U : Type 0) : Type 0 where
  pub rows : List (Generator U)
  pub room : ℕ
  pub places : ℕ

-- the generator of this number is there, and spent
abbrev pub spent_at : {U : Type 0} → List (Generator U) → ℕ → Bool
spent_at rows g = option_map_or (λ x. x.spent) (slice_get rows g) false

abbrev pub spent_row : {U : Type 0} → Generator U → Generator U
spent_row x = record x { spent = true }

-- it offers a visible definition of the name in the dylib
abbrev pub offers_in : {U : Type 0} → (U → Meaning) → Scope → ℕ → ℕ → Generator U → Bool
offers_in means scope d name x = x.dylib.0 == d && offers_name (means x.unit) name scope

-- the first unspent generator that does
abbrev pub first_offer : {U : Type 0} → (U → Meaning) → List (Generator U) → ℕ → ℕ → Scope → Option GenId
first_offer means rows d name scope = option_map (λ g. record { 0 = g }) (position_from (λ x. not x.spent && x.dylib.0 == d && offers_name (means x.unit) name scope) 0 rows)

-- what it is in a session, by this tracker
abbrev pub gen_row : {U : Type 0} → (U → Meaning) → ℕ → Generator U → GenRow
gen_row means t x = record { dylib = x.dylib.0; tracker = t; meaning = means x.unit; spent = x.spent }
