-- How the generators are kept: in the line of each name that they offer, in one for all definitions and
-- in one for those that are exported.
use Rattle.std.specs.Prelude.{◌≡◌, ℕ, ◌+◌, ◌≤◌, ◌&&◌, ◌==◌, min, Bool, false, slice_get, List, [], ◌∷◌, length, if◌then◌else◌}
use Rattle.std.specs.HashMap.{spare}
use Rattle.std.specs.List.{list_any}
use Rattle.std.specs.Option.{option_map_or}
use Rattle.orc_ids.specs.declared.flags.SymFlags.{SymFlags}
use Rattle.orc_ids.specs.declared.ids.NameId.{NameId}
use Rattle.orc_ids.specs.declared.limits.TheConstants.{GENERATOR_LIMIT}
use Rattle.orc_ids.specs.declared.lookup.Scope.{Scope}
use Rattle.orc_ids.specs.declared.lookup.Scope.TheVariants.{All, Exported}
use Rattle.session_model.specs.Match.{sees}
use Rattle.session_model.specs.Meaning.{Meaning}
use Rattle.generators.specs.declared.generator.Generator.{Generator}
use Rattle.generators.specs.declared.lines.Lines.{Lines}
use Rattle.generators.specs.Lines.{Queue, without_spent, queue_at}
use Rattle.generators.specs.Rows.{spent_at, offers_in}

-- one of the names is this one, and the scope sees it
abbrev pub offered_in : List (NameId × SymFlags) → Scope → ℕ → Bool
offered_in offers scope name = list_any (λ o. o.0.0 == name && sees scope o.1) offers

-- the numbers of those that pass, the first of all being k
abbrev pub offering : {U : Type 0} → (Generator U → Bool) → ℕ → List (Generator U) → List ℕ
offering offers k [] = []
offering offers k (x ∷ xs) = if offers x then k ∷ offering offers (k + 1) xs else offering offers (k + 1) xs

-- those from the first on that isn't spent
abbrev pub still_offering : {U : Type 0} → (Generator U → Bool) → ℕ → List (Generator U) → List ℕ
still_offering offers k [] = []
still_offering offers k (x ∷ xs) = if offers x && x.spent then still_offering offers (k + 1) xs else (if offers x then k ∷ offering offers (k + 1) xs else still_offering offers (k + 1) xs)

-- the line of those that pass
abbrev pub queue_of : {U : Type 0} → (Generator U → Bool) → List (Generator U) → Queue
queue_of offers rows = record { joined = length (offering offers 0 rows); waiting = still_offering offers 0 rows }

-- the line of each name is that of the generators that offer it
abbrev pub AreInLine : {U : Type 0} → (U → Meaning) → Scope → List (Generator U) → Lines → Type 0
AreInLine means scope rows lines = (d name : ℕ) → queue_at lines d name ≡ queue_of (offers_in means scope d name) rows

pub record AreKept {U : Type 0} (means : U → Meaning) (rows : List (Generator U)) (all exported : Lines) : Type 0 where
  pub few : length rows ≤ GENERATOR_LIMIT
  pub in_all : AreInLine means All rows all
  pub in_exported : AreInLine means Exported rows exported

-- so many may join both lines
abbrev pub room_in : Lines → Lines → ℕ
room_in all exported = min (min (spare all.lines) (spare all.turns)) (min (spare exported.lines) (spare exported.turns))

-- the spent ones at the head of the line of each name that the generator offers have left it
abbrev pub HavePassed : {U : Type 0} → (U → Meaning) → List (Generator U) → ℕ → Lines → Lines → Type 0
HavePassed means rows g old new = (d name : ℕ) → queue_at new d name ≡ (if option_map_or (offers_in means All d name) (slice_get rows g) false then without_spent (spent_at rows) (queue_at old d name) else queue_at old d name)
