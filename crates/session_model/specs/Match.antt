-- Which definition a name stands for in a search order (ORC Design, "Linkage rules").
use Rattle.std.specs.Prelude.{ℕ, ◌+◌, Bool, true, ◌&&◌, ◌==◌, not, List, [], ◌∷◌, Option, Some, None, option_map, if◌then◌else◌}
use Rattle.std.specs.List.{list_any, position_from}
use Rattle.std.specs.Option.{option_map_or}
use Rattle.orc_ids.specs.declared.ids.GenId.{GenId}
use Rattle.orc_ids.specs.declared.flags.SymFlags.{SymFlags}
use Rattle.orc_ids.specs.declared.lookup.OrderItem.{OrderItem}
use Rattle.orc_ids.specs.declared.lookup.Scope.{Scope}
use Rattle.orc_ids.specs.declared.lookup.Scope.TheVariants.{All, Exported}
use Rattle.session_model.specs.Lists.{or_else, first_some, only_if}
use Rattle.session_model.specs.Meaning.{Meaning}
use Rattle.session_model.specs.Plain.{Plain, GenRow}
use Rattle.session_model.specs.declared.rows.InstRow.{InstRow}
use Rattle.session_model.specs.declared.rows.Row.{Row}
pub use Rattle.session_model.specs.declared.rows.Match.{Match}
pub use Rattle.session_model.specs.declared.rows.Match.TheVariants.{Instance, Offered}

-- an exported scope sees exported names only
abbrev pub sees : Scope → SymFlags → Bool
sees All flags = true
sees Exported flags = flags.exported

-- the first row that passes, with its number
abbrev pub first_row : (InstRow → Bool) → ℕ → List InstRow → Option Row
first_row test k [] = None
first_row test k (r ∷ rs) = if test r then Some (record { inst = record { 0 = k }; flags = r.flags }) else first_row test (k + 1) rs

-- the present row of a name in a dylib
abbrev pub row_of : List InstRow → ℕ → ℕ → Option Row
row_of rows d name = first_row (λ r. r.present && r.dylib.0 == d && r.name.0 == name) 0 rows

-- the unit offers a definition of the name that the scope sees
abbrev pub offers_name : Meaning → ℕ → Scope → Bool
offers_name u name scope = list_any (λ o. o.0.0 == name && sees scope o.1) u.offers

-- the first unspent generator of a dylib that offers a visible definition of the name
abbrev pub offered_by : List GenRow → ℕ → ℕ → Scope → Option GenId
offered_by generators d name scope = option_map (λ g. record { 0 = g }) (position_from (λ (g : GenRow). not g.spent && g.dylib == d && offers_name g.meaning name scope) 0 generators)

-- in one dylib: its present visible row of the name, else the first generator that offers one
abbrev pub match_in : Plain → ℕ → OrderItem → Option Match
match_in m name item = or_else
    (option_map_or (λ r. only_if (sees item.scope r.flags) (Instance r.inst)) (row_of m.rows item.dylib.0 name) None)
    (option_map Offered (offered_by m.generators item.dylib.0 name item.scope))

-- in the first dylib of the order that has one
abbrev pub match_of : Plain → List OrderItem → ℕ → Option Match
match_of m order name = first_some (match_in m name) order
